-- Where the line of a party that writes its batches ahead leads, by how it is answered.
use Rattle.std.proofs.Common.{◌≡◌, ◌∙◌, sym, ap, subst, refl, ℕ, ◌<◌, ◌≤◌, Bool, true, false, List, [], ◌∷◌, ◌++◌, length, Option, Some, None, inl, inr, arith}
use Rattle.std.specs.Prelude.{is_none}
use Rattle.tb_io.specs.Faults.{HasRisen}
use Rattle.tb_lines.specs.Outputs.{ReplyValue}
use Rattle.tb_model.specs.Releases.{ReleaseValue}
use Rattle.tb_release.specs.Batches.{CanFollow, batch_refusal}
use Rattle.tb_release.specs.Chains.{release_after}
use Rattle.tb_release.specs.declared.edits.Edit.{Edit}
use Rattle.tb_release.specs.declared.fault.EditFaultKind.{EditFaultKind}
use Rattle.tb_release.proofs.Chained.{can_follow_unless_refused}
use Rattle.tb_tables.specs.Answers.{free_reply}
use Rattle.tb_tables.specs.ReplyLines.{memory_line}
use Rattle.tb_ahead.specs.Keepers.{IsAt, KeeperValue, LeadsBy, Reaches}
use Rattle.tb_ahead.specs.Keeping.{IsKeptStep, KeptState, unkept_line}
use Rattle.tb_ahead.specs.Publishing.{IsPublishReply, StateValue}
use Rattle.tb_ahead.specs.Puts.{FileStands, IsAdded, MayBeAdded, Since, StaysAsItWas}
use Rattle.tb_ahead.specs.Stages.{IsClosedUnlessNone, IsKeptBy}
use Rattle.tb_ahead.specs.declared.ahead.Put.TheVariants as put

-- of an option
none_is : {A : Type 0} (o : Option A) → is_none o ≡ true → o ≡ None
none_is None h = refl
none_is (Some x) h = absurd (cc)

module _ (Own : StateValue → List ℕ → ReplyValue → StateValue → Type 0) (base : ReleaseValue) (line : List ℕ) (old new : StateValue)
    (standing standing' : FileStands) (live live' : Bool) (f f' : ℕ) where
  abbrev Was : KeptState → Type 0
  Was = IsAt standing live f old

  abbrev Is : KeptState → Type 0
  Is = IsAt standing' live' f' new

  -- the state is the party's
  from_here : (Step : KeptState → KeptState → Type 0)
      → ((since : Since) (batches : List (List Edit)) (further : Option (List Edit)) → is_none further ≡ live → standing since batches further → (last : KeptState) × Is last × Step (record { state = old; batches = batches; further = further; faults = f; since = since }) last)
      → Reaches Was Is Step
  from_here Step h first at =
      let same : record { state = old; batches = first.batches; further = first.further; faults = f; since = first.since } ≡ first = λ i. record { state = sym at.same i; batches = first.batches; further = first.further; faults = sym at.count i; since = first.since } in
      subst (λ (k : KeptState). (last : KeptState) × Is last × Step k last) same (h first.since first.batches first.further at.lives at.stands)

  -- a line that doesn't ask to publish
  pub other_line : (asks : Bool) (reply : ReplyValue) → asks ≡ false → Own old line reply new → live' ≡ live → f' ≡ f → StaysAsItWas standing standing' → Reaches Was Is (λ first last. IsKeptStep asks Own base first line reply last)
  other_line asks reply is own lives counts stays = from_here (λ first last. IsKeptStep asks Own base first line reply last) (λ since batches further now stands.
      let last : KeptState = record { state = new; batches = batches; further = further; faults = f; since = since } in (
        last,
        record { same = refl; count = sym counts; lives = now ∙ sym lives; stands = stays since batches further stands },
        subst (λ b. IsKeptStep b Own base (record { state = old; batches = batches; further = further; faults = f; since = since }) line reply last) (sym is) (own, refl),
      ))

  abbrev Publishes : ReplyValue → KeptState → KeptState → Type 0
  Publishes reply first last = IsKeptStep true Own base first line reply last

  abbrev release : ReleaseValue
  release = release_after base old.chain

  -- edits that are refused can't follow
  never : (kind : EditFaultKind) (edit : ℕ) → batch_refusal release old.held ≡ Some (kind, edit) → CanFollow release old.held → ⊥
  never kind edit why can = let none : batch_refusal release old.held ≡ None = (can_follow_unless_refused release old.held can.few).1 can in absurd (cc)

  module _ (since : Since) (batches : List (List Edit)) (further : Option (List Edit)) (now : is_none further ≡ live) (stands : standing since batches further) where
    abbrev before : KeptState
    before = record { state = old; batches = batches; further = further; faults = f; since = since }

    -- memory was refused, and nothing was put
    still : live' ≡ live → f ≤ f' → StaysAsItWas standing standing' → new ≡ old → (reply : ReplyValue) → (reply.price ≡ 0) → (reply.text ≡ memory_line) → (last : KeptState) × Is last × Publishes reply before last
    still lives counts stays same reply free is =
        let last : KeptState = record { state = new; batches = batches; further = further; faults = f'; since = since } in (
          last,
          record { same = refl; count = refl; lives = now ∙ sym lives; stands = stays since batches further stands },
          (free, (counts, refl, inr (inr (inr (is, same, inl (refl, refl)))))),
        )

    -- the edits were refused
    refused : live' ≡ live → f' ≡ f → StaysAsItWas standing standing' → (kind : EditFaultKind) (edit : ℕ) → batch_refusal release old.held ≡ Some (kind, edit)
        → (reply : ReplyValue) → (reply.price ≡ 0) → IsPublishReply release old reply.text new → (last : KeptState) × Is last × Publishes reply before last
    refused lives counts stays kind edit why reply free (inl (can, is, goes)) = absurd (never kind edit why can)
    refused lives counts stays kind edit why reply free (inr (inl is)) =
        let last : KeptState = record { state = new; batches = batches; further = further; faults = f'; since = since } in (
          last,
          record { same = refl; count = refl; lives = now ∙ sym lives; stands = stays since batches further stands },
          (free, (omega (arith, counts), refl, inr (inl (is, (refl, refl))))),
        )
    refused lives counts stays kind edit why reply free (inr (inr (is, same))) = still lives (omega (arith, counts)) stays same reply free is

    -- nothing is put any more
    closed_before : live ≡ false → live' ≡ live → f' ≡ f → StaysAsItWas standing standing' → CanFollow release old.held → new ≡ old
        → (last : KeptState) × Is last × Publishes (free_reply unkept_line) before last
    closed_before closed lives counts stays can same =
        let last : KeptState = record { state = new; batches = batches; further = further; faults = f'; since = since } in (
          last,
          record { same = refl; count = refl; lives = now ∙ sym lives; stands = stays since batches further stands },
          (refl, (omega (arith, counts), refl, inr (inr (inl (can, refl, same, inl (now ∙ closed, (refl, refl))))))),
        )

    -- the disk failed
    failed : live ≡ true → live' ≡ false → HasRisen f f' → f ≤ f' → MayBeAdded old.held standing standing' → CanFollow release old.held → new ≡ old
        → (last : KeptState) × Is last × Publishes (free_reply unkept_line) before last
    failed was closes risen counts added can same =
        let none : further ≡ None = none_is further (now ∙ was) in
        let last : KeptState = record { state = new; batches = batches; further = Some old.held; faults = f'; since = since } in (
          last,
          record { same = refl; count = refl; lives = sym closes; stands = added since batches (subst (λ (o : Option (List Edit)). standing since batches o) none stands) },
          (refl, (counts, refl, inr (inr (inl (can, refl, same, inr (risen, (none, refl, refl))))))),
        )

    -- the edits were put and published
    kept : live ≡ true → live' ≡ true → f ≤ f' → IsAdded old.held standing standing' → CanFollow release old.held → length new.held ≤ 0
        → (reply : ReplyValue) → (reply.price ≡ 0) → IsPublishReply release old reply.text new → (last : KeptState) × Is last × Publishes reply before last
    kept was stays counts added can none reply free (inl is) =
        let open_still : further ≡ None = none_is further (now ∙ was) in
        let last : KeptState = record { state = new; batches = batches ++ old.held ∷ []; further = None; faults = f'; since = since } in (
          last,
          record { same = refl; count = refl; lives = sym stays; stands = added since batches (subst (λ (o : Option (List Edit)). standing since batches o) open_still stands) },
          (free, (counts, refl, inl (is, open_still, refl, refl))),
        )
    kept was stays counts added can none reply free (inr (inl (kind, edit, why, is, goes))) = absurd (never kind edit why can)
    kept was stays counts added can none reply free (inr (inr (is, same))) =
        let some : 0 < length old.held = can.some in let many : length new.held ≡ length old.held = ap (λ (s : StateValue). length s.held) same in absurd (omega (arith, some, many, none))

    -- they were put, and memory was refused then
    kept_unpublished : live ≡ true → live' ≡ false → f ≤ f' → MayBeAdded old.held standing standing' → CanFollow release old.held → 0 < length new.held
        → (reply : ReplyValue) → (reply.price ≡ 0) → IsPublishReply release old reply.text new → (last : KeptState) × Is last × Publishes reply before last
    kept_unpublished was closes counts added can left reply free (inl (can_too, is, goes)) =
        let many : length new.held ≡ 0 = ap (λ (s : StateValue). length s.held) goes in absurd (omega (arith, left, many))
    kept_unpublished was closes counts added can left reply free (inr (inl (kind, edit, why, is, goes))) = absurd (never kind edit why can)
    kept_unpublished was closes counts added can left reply free (inr (inr (is, same))) =
        let open_still : further ≡ None = none_is further (now ∙ was) in
        let last : KeptState = record { state = new; batches = batches; further = Some old.held; faults = f'; since = since } in (
          last,
          record { same = refl; count = refl; lives = sym closes; stands = added since batches (subst (λ (o : Option (List Edit)). standing since batches o) open_still stands) },
          (free, (counts, refl, inr (inr (inr (is, same, inr (can, (open_still, refl, refl))))))),
        )

  -- the same from wherever the party stood
  pub by_memory : live' ≡ live → f ≤ f' → StaysAsItWas standing standing' → new ≡ old → Reaches Was Is (Publishes (free_reply memory_line))
  by_memory lives counts stays same = from_here (Publishes (free_reply memory_line)) (λ since batches further now stands. still since batches further now stands lives counts stays same (free_reply memory_line) refl refl)

  pub by_refusal : live' ≡ live → f' ≡ f → StaysAsItWas standing standing' → (kind : EditFaultKind) (edit : ℕ) → batch_refusal release old.held ≡ Some (kind, edit)
      → (reply : ReplyValue) → (reply.price ≡ 0) × IsPublishReply release old reply.text new → Reaches Was Is (Publishes reply)
  by_refusal lives counts stays kind edit why reply (cost, is) = from_here (Publishes reply) (λ since batches further now stands. refused since batches further now stands lives counts stays kind edit why reply cost is)

  pub by_closed : live ≡ false → live' ≡ live → f' ≡ f → StaysAsItWas standing standing' → CanFollow release old.held → new ≡ old → Reaches Was Is (Publishes (free_reply unkept_line))
  by_closed closed lives counts stays can same = from_here (Publishes (free_reply unkept_line)) (λ since batches further now stands. closed_before since batches further now stands closed lives counts stays can same)

  pub by_fault : live ≡ true → live' ≡ false → HasRisen f f' → f ≤ f' → MayBeAdded old.held standing standing' → CanFollow release old.held → new ≡ old → Reaches Was Is (Publishes (free_reply unkept_line))
  by_fault was closes risen counts added can same = from_here (Publishes (free_reply unkept_line)) (λ since batches further now stands. failed since batches further now stands was closes risen counts added can same)

  pub by_publication : live ≡ true → live' ≡ true → f ≤ f' → IsAdded old.held standing standing' → CanFollow release old.held → length new.held ≤ 0
      → (reply : ReplyValue) → (reply.price ≡ 0) × IsPublishReply release old reply.text new → Reaches Was Is (Publishes reply)
  by_publication was lives counts added can none reply (cost, is) = from_here (Publishes reply) (λ since batches further now stands. kept since batches further now stands was lives counts added can none reply cost is)

  pub by_closing : live ≡ true → live' ≡ false → f ≤ f' → MayBeAdded old.held standing standing' → CanFollow release old.held → 0 < length new.held
      → (reply : ReplyValue) → (reply.price ≡ 0) × IsPublishReply release old reply.text new → Reaches Was Is (Publishes reply)
  by_closing was closes counts added can left reply (cost, is) = from_here (Publishes reply) (λ since batches further now stands. kept_unpublished since batches further now stands was closes counts added can left reply cost is)

-- ---- what the functions say
-- what was put and isn't published may stand there
added_closed : (held : List Edit) (a b c : FileStands) → IsAdded held a b → StaysAsItWas b c
    → ((since : Since) (batches : List (List Edit)) (last : List Edit) → c since (batches ++ last ∷ []) None → c since batches (Some last)) → MayBeAdded held a c
added_closed held a b c added stays further since batches stands = further since batches held (stays since (batches ++ held ∷ []) None (added since batches stands))

added_still : (held : List Edit) (a b c : FileStands) → IsAdded held a b → StaysAsItWas b c → IsAdded held a c
added_still held a b c added stays since batches stands = stays since (batches ++ held ∷ []) None (added since batches stands)

module _ (Own : StateValue → List ℕ → ReplyValue → StateValue → Type 0) (base : ReleaseValue) (line : List ℕ) (old new : StateValue)
    (a b c : FileStands) {live live' live'' : Bool} {f f' f'' : ℕ} where
  -- the edits were put, and then published, or not and nothing is put any more
  pub by_kept : IsKeptBy old.held a b live live' f f' put.Kept → IsClosedUnlessNone new.held b c live' live'' → f'' ≡ f' → CanFollow (release_after base old.chain) old.held
      → ((since : Since) (batches : List (List Edit)) (last : List Edit) → c since (batches ++ last ∷ []) None → c since batches (Some last))
      → (reply : ReplyValue) → (reply.price ≡ 0) × IsPublishReply (release_after base old.chain) old reply.text new
      → Reaches (IsAt a live f old) (IsAt c live'' f'' new) (λ first last. IsKeptStep true Own base first line reply last)
  by_kept (was, is, counts, added) (inl (none, same, stays)) even can further reply says =
      by_publication Own base line old new a c live live'' f f'' was (same ∙ is) (omega (arith, counts, even)) (added_still old.held a b c added stays) can none reply says
  by_kept (was, is, counts, added) (inr (left, closes, stays)) even can further reply says =
      by_closing Own base line old new a c live live'' f f'' was closes (omega (arith, counts, even)) (added_closed old.held a b c added stays further) can left reply says

module _ (Own : StateValue → List ℕ → ReplyValue → StateValue → Type 0) (base : ReleaseValue) (line : List ℕ) (old new : StateValue)
    (a b : FileStands) (live live' : Bool) (f f' : ℕ) where
  -- they couldn't be kept
  pub by_unkept : IsKeptBy old.held a b live live' f f' put.DiskFault → CanFollow (release_after base old.chain) old.held → new ≡ old
      → Reaches (IsAt a live f old) (IsAt b live' f' new) (λ first last. IsKeptStep true Own base first line (free_reply unkept_line) last)
  by_unkept (inl (closed, same, even, stays)) can still = by_closed Own base line old new a b live live' f f' closed same even stays can still
  by_unkept (inr (was, closes, risen, counts, added)) can still = by_fault Own base line old new a b live live' f f' was closes risen counts added can still

  -- there was no memory to put them
  pub by_no_memory : IsKeptBy old.held a b live live' f f' put.Memory → new ≡ old
      → Reaches (IsAt a live f old) (IsAt b live' f' new) (λ first last. IsKeptStep true Own base first line (free_reply memory_line) last)
  by_no_memory (same, counts, stays) still = by_memory Own base line old new a b live live' f f' same counts stays still

-- a party's own step, where it is the same party that stands at the same place
pub own_as : (Own : ReleaseValue → StateValue → List ℕ → ReplyValue → StateValue → Type 0) (base base' : ReleaseValue) (s s' : StateValue) (line : List ℕ) (reply : ReplyValue) (new : StateValue) → base' ≡ base → s' ≡ s → Own base' s' line reply new → Own base s line reply new
own_as Own base base' s s' line reply new b e h = subst (λ (x : StateValue). Own base x line reply new) e (subst (λ (y : ReleaseValue). Own y s' line reply new) b h)

-- a line that asks to publish leads so
pub as_asked : {W : Type 0} (Continues : W → W → Type 0) (live : W → Bool) (faults : W → ℕ) (standing : W → FileStands) (Own : ReleaseValue → StateValue → List ℕ → ReplyValue → StateValue → Type 0)
    (asks : Bool) (old : KeeperValue W) (line : List ℕ) (reply : ReplyValue) (new : KeeperValue W) → asks ≡ true → LeadsBy Continues live faults standing Own true old line reply new → LeadsBy Continues live faults standing Own asks old line reply new
as_asked Continues live faults standing Own asks old line reply new is h = subst (λ (b : Bool). LeadsBy Continues live faults standing Own b old line reply new) (sym is) h

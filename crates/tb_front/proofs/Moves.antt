-- Each kind of step keeps the rule.
use Rattle.std.proofs.Common.{◌≡◌, ◌≢◌, ◌⊎◌, ℕ, zero, suc, ◌+◌, ◌%◌, ◌^◌, ◌<◌, List, [], ◌∷◌, ◌++◌, length, set, Option, Some, refl, sym, ap, ◌∙◌, subst, inl, inr, ⊎_elim, arith, length-append}
use Rattle.std.proofs.Math.Nat.{mod-eq_of_lt}
use Rattle.std.specs.Prelude.{slice_index, slice_set}
use mathlib.Core.Option.{some, none, some-ne-none, some-injective}
use mathlib.Core.List.{IsPrefix}
use lib.ListN.{get_elem?}
use Rattle.atomic_table.specs.Table.{Me, Splits, Joins, Allows, opening, keeps, step}
use Rattle.atomic_table.proofs.Lists.{at_set}
use Rattle.tb_front.specs.declared.view.Role.{Role}
use Rattle.tb_front.specs.declared.view.Role.TheVariants.{Opener, Writer, Keeper, Draft, Pass, Spent}
use Rattle.tb_front.specs.declared.view.View.{View}
use Rattle.tb_front.specs.declared.front.TheConstants.{LONGEST_CHAIN}
use Rattle.tb_front.specs.Chain.{view, opener, spent, HasRole, HasBase, Fits, OneChain}
use Rattle.tb_front.specs.Holders.{longer}
use Rattle.tb_front.specs.Steps.{in_role, lengthened, confirmed, IsAppended, IsLoaded}
use Rattle.tb_front.proofs.Prefixes.{prefix_self, prefix_trans, prefix_longer, prefix_more}

module _ {A : Type 0} where
  -- the last of a list, and where it stands
  at_last_or : (l : List A) (a b : A) (j : ℕ) → get_elem? (l ++ a ∷ []) j ≡ some b → (get_elem? l j ≡ some b) ⊎ ((j ≡ length l) × (a ≡ b))
  at_last_or [] a b zero e = inr (refl, some-injective a b e)
  at_last_or [] a b (suc j) e = absurd (some-ne-none b (sym e))
  at_last_or (x ∷ xs) a b zero e = inl e
  at_last_or (x ∷ xs) a b (suc j) e = ⊎_elim (λ t. inl t) (λ t. inr (ap suc t.0, t.1)) (at_last_or xs a b j e)

  -- a fact of each place, after one of them changed
  each_set : (F : ℕ → A → Type 0) (views : List A) (by : ℕ) (w : A) → ((j : ℕ) (u : A) → j ≢ by → get_elem? views j ≡ some u → F j u) → F by w → (j : ℕ) (u : A) → get_elem? (set views by w) j ≡ some u → F j u
  each_set F views by w others mine j u e =
      ⊎_elim
      (λ (x : (j ≡ by) × (w ≡ u)). subst (λ (y : ℕ × A). F y.0 y.1) (λ i. (sym x.0 i, x.1 i)) mine)
      (λ (x : (j ≢ by) × (get_elem? views j ≡ some u)). others j u x.0 x.1)
      (at_set views by j w u e)

  -- the same after one came last
  each_new : (F : ℕ → A → Type 0) (views : List A) (w : A) → ((j : ℕ) (u : A) → get_elem? views j ≡ some u → F j u) → F (length views) w → (j : ℕ) (u : A) → get_elem? (views ++ w ∷ []) j ≡ some u → F j u
  each_new F views w others mine j u e =
      ⊎_elim
      (λ (x : get_elem? views j ≡ some u). others j u x)
      (λ (x : (j ≡ length views) × (w ≡ u)). subst (λ (y : ℕ × A). F y.0 y.1) (λ i. (sym x.0 i, x.1 i)) mine)
      (at_last_or views w u j e)

-- What the seats apart from one know stays, where something changes at that one
module _ {E : Type 0} where
  -- the keeper is split off
  split_off : (chain kept : List E) (writer keeper new j : ℕ) → keeper ≡ writer → IsPrefix kept chain → j ≢ writer
      → (role : Role) (list : List E) → HasRole chain kept writer keeper j role list → HasRole chain chain writer new j role list
  split_off chain kept writer keeper new j same p apart Opener list x = absurd (apart x.0)
  split_off chain kept writer keeper new j same p apart Writer list x = absurd (apart x.0)
  split_off chain kept writer keeper new j same p apart Keeper list x = absurd (apart (x.0 ∙ same))
  split_off chain kept writer keeper new j same p apart Draft list x = x
  split_off chain kept writer keeper new j same p apart Pass list x = prefix_trans list kept chain x p
  split_off chain kept writer keeper new j same p apart Spent list x = tt

  -- the writer adds to the chain
  longer_chain : (chain more kept : List E) (writer keeper j : ℕ) → j ≢ writer → (role : Role) (list : List E)
      → HasRole chain kept writer keeper j role list → HasRole (chain ++ more) kept writer keeper j role list
  longer_chain chain more kept writer keeper j apart Opener list x = absurd (apart x.0)
  longer_chain chain more kept writer keeper j apart Writer list x = absurd (apart x.0)
  longer_chain chain more kept writer keeper j apart Keeper list x = x
  longer_chain chain more kept writer keeper j apart Draft list x = prefix_more list chain more x
  longer_chain chain more kept writer keeper j apart Pass list x = x
  longer_chain chain more kept writer keeper j apart Spent list x = tt

  -- the keeper takes in a draft
  longer_kept : (chain kept now : List E) (writer keeper j : ℕ) → IsPrefix kept now → j ≢ keeper → (role : Role) (list : List E)
      → HasRole chain kept writer keeper j role list → HasRole chain now writer keeper j role list
  longer_kept chain kept now writer keeper j p apart Opener list x = x
  longer_kept chain kept now writer keeper j p apart Writer list x = x
  longer_kept chain kept now writer keeper j p apart Keeper list x = absurd (apart x.0)
  longer_kept chain kept now writer keeper j p apart Draft list x = x
  longer_kept chain kept now writer keeper j p apart Pass list x = prefix_trans list kept now x p
  longer_kept chain kept now writer keeper j p apart Spent list x = tt

module _ {E S T : Type 0} where
  pub begins : (key : S) → OneChain {T = T} {E = E} {S = S} key (opening (0 ∷ []) [] (opener key))
  begins key = record {
    chain = [];
    kept = [];
    writer = 0;
    keeper = 0;
    words = refl;
    behind = ([], refl);
    each = one;
  }
    where
      one : (id : ℕ) (v : View E S) → get_elem? (opener key ∷ []) id ≡ some v → Fits key [] [] 0 0 id v
      one zero v e = subst (Fits key [] [] 0 0 0) (some-injective _ _ e) ((refl, refl, refl), refl, tt)
      one (suc id) v e = absurd (some-ne-none v (sym e))

  -- the keeper is split off the opener
  pub opens : (key : S) (id : ℕ) (v : View E S) → v.role ≡ Opener → Splits {S = T} (OneChain key) id v (in_role Writer v) (in_role Keeper v)
  opens key id v is s h at =
      let mine = h.each id v at in
      let place = subst (λ r. HasRole h.chain h.kept h.writer h.keeper id r v.list) is mine.0 in
      let base = subst (λ r. HasBase key r v.base) is mine.1 in
      let left = view Writer v.base v.list in
      let views = set s.views id left in
      let new = length views in
      record {
        chain = h.chain;
        kept = h.chain;
        writer = h.writer;
        keeper = new;
        words = h.words;
        behind = prefix_self h.chain;
        each = each_new (λ j u. Fits key h.chain h.chain h.writer new j u) views (view Keeper v.base v.list)
            (each_set (λ j u. Fits key h.chain h.chain h.writer new j u) s.views id left
            (λ j u apart e. let x = h.each j u e in (split_off h.chain h.kept h.writer h.keeper new j place.2 h.behind (λ k. apart (k ∙ sym place.0)) u.role u.list x.0, x.1, x.2))
            ((place.0, place.1), base, tt))
            ((refl, place.1), base, tt);
      }

  -- a seat is split off, which may know the list
  splits : (key : S) (id : ℕ) (v right : View E S) → ((chain kept : List E) (writer keeper new : ℕ) → IsPrefix kept chain → Fits key chain kept writer keeper id v → Fits key chain kept writer keeper new right) → Splits {S = T} (OneChain key) id v v right
  splits key id v right may s h at =
      let mine = h.each id v at in
      record {
        chain = h.chain;
        kept = h.kept;
        writer = h.writer;
        keeper = h.keeper;
        words = h.words;
        behind = h.behind;
        each = each_new (λ j u. Fits key h.chain h.kept h.writer h.keeper j u) (set s.views id v) right
            (each_set (λ j u. Fits key h.chain h.kept h.writer h.keeper j u) s.views id v (λ j u apart e. h.each j u e) mine)
            (may h.chain h.kept h.writer h.keeper (length (set s.views id v)) h.behind mine);
      }

  pub drafts : (key : S) (id : ℕ) (v : View E S) → v.role ≡ Writer → Splits {S = T} (OneChain key) id v v (in_role Draft v)
  drafts key id v is = splits key id v _ (λ chain kept writer keeper new p mine.
      let place = subst (λ r. HasRole chain kept writer keeper id r v.list) is mine.0 in
      let base = subst (λ r. HasBase key r v.base) is mine.1 in
      (subst (λ l. IsPrefix l chain) (sym place.1) (prefix_self chain), base, tt))

  pub keeper_tells : (key : S) (id : ℕ) (v : View E S) → v.role ≡ Keeper → Splits {S = T} (OneChain key) id v v (in_role Pass v)
  keeper_tells key id v is = splits key id v _ (λ chain kept writer keeper new p mine.
      let place = subst (λ r. HasRole chain kept writer keeper id r v.list) is mine.0 in
      let base = subst (λ r. HasBase key r v.base) is mine.1 in
      (subst (λ l. IsPrefix l kept) (sym place.1) (prefix_self kept), base, tt))

  pub pass_tells : (key : S) (id : ℕ) (v : View E S) → v.role ≡ Pass → Splits {S = T} (OneChain key) id v v (in_role Pass v)
  pass_tells key id v is = splits key id v _ (λ chain kept writer keeper new p mine.
      (subst (λ r. HasRole chain kept writer keeper id r v.list) is mine.0, subst (λ r. HasBase key r v.base) is mine.1, tt))

  -- a load tells what a join left, and changes nothing else
  pub loads : (key : S) (id slots : ℕ) (m : Me T (View E S)) → Allows (OneChain key) slots id m 0 (λ n. n) (IsLoaded (step slots 0 0 0 none) m)
  loads key id slots m s h long at small =
      let mine = h.each id m.0 at in
      let w = in_role m.0.role m.0 in (
        w,
        keeps,
        tt,
        record {
          chain = h.chain;
          kept = h.kept;
          writer = h.writer;
          keeper = h.keeper;
          words = ap (λ ws. slice_set ws 0 (slice_index ws 0)) h.words;
          behind = h.behind;
          each = each_set (λ j u. Fits key h.chain h.kept h.writer h.keeper j u) s.views id w (λ j u apart e. h.each j u e) (mine.0, mine.1, tt);
        },
        (refl, mine.2),
      )

  -- a seat is joined into another, and spent
  absorbs : (key blank : S) (id : ℕ) (v : View E S) (other : ℕ) (w both : View E S)
      → ((chain kept : List E) (writer keeper : ℕ) → IsPrefix kept chain → Fits key chain kept writer keeper id v → Fits key chain kept writer keeper other w
      → (now : List E) × IsPrefix now chain × ((j : ℕ) → j ≢ id → (role : Role) (list : List E)
      → HasRole chain kept writer keeper j role list
      → HasRole chain now writer keeper j role list) × Fits key chain now writer keeper id both)
      → Joins {S = T} (OneChain key) id v other w both (spent blank)
  absorbs key blank id v other w both may s h at apart there =
      let mine = h.each id v at in
      let theirs = ⊎_elim (λ (t : (other ≡ id) × (both ≡ w)). absurd (apart t.0)) (λ (t : (other ≢ id) × (get_elem? s.views other ≡ some w)). h.each other w t.1) (at_set s.views id other both w there) in
      let now = may h.chain h.kept h.writer h.keeper h.behind mine theirs in
      record {
        chain = h.chain;
        kept = now.0;
        writer = h.writer;
        keeper = h.keeper;
        words = h.words;
        behind = now.1;
        each = each_set (λ j u. Fits key h.chain now.0 h.writer h.keeper j u) (set s.views id both) other (spent blank)
            (λ j u _ e. each_set (λ i y. Fits key h.chain now.0 h.writer h.keeper i y) s.views id both (λ i y far e'. let x = h.each i y e' in (now.2 i far y.role y.list x.0, x.1, x.2)) now.3 j u e)
            (tt, tt, tt);
      }

  -- the keeper takes in a draft
  pub adopts : {key : S} (blank : S) {id : ℕ} {v : View E S} {other : ℕ} {w : View E S} → v.role ≡ Keeper → w.role ≡ Draft → Joins {S = T} (OneChain key) id v other w (lengthened v w) (spent blank)
  adopts {key} blank {id} {v} {other} {w} is too = absorbs key blank id v other w _ (λ chain kept writer keeper p mine theirs.
      let place = subst (λ r. HasRole chain kept writer keeper id r v.list) is mine.0 in
      let draft = subst (λ r. HasRole chain kept writer keeper other r w.list) too theirs.0 in
      let base = subst (λ r. HasBase key r v.base) is mine.1 in
      let their_base = subst (λ r. HasBase key r w.base) too theirs.1 in
      let begun : IsPrefix v.list chain = subst (λ l. IsPrefix l chain) (sym place.1) p in
      let both = prefix_longer v.list w.list chain begun draft in
      let now = longer v.list w.list in (
        now,
        both.2,
        (λ j far role list x. longer_kept chain kept now writer keeper j (subst (λ l. IsPrefix l now) place.1 both.0) (λ k. far (k ∙ sym place.0)) role list x),
        (
          subst (λ r. HasRole chain now writer keeper id r now) (sym is) (place.0, refl),
          mine.1,
          (refl, both.0, (their_base ∙ sym base, both.1, tt)),
        ),
      ))

  -- a pass takes in a note
  pub learns : {key : S} (blank : S) {id : ℕ} {v : View E S} {other : ℕ} {w : View E S} → v.role ≡ Pass → w.role ≡ Pass → Joins {S = T} (OneChain key) id v other w (lengthened v w) (spent blank)
  learns {key} blank {id} {v} {other} {w} is too = absorbs key blank id v other w _ (λ chain kept writer keeper p mine theirs.
      let place = subst (λ r. HasRole chain kept writer keeper id r v.list) is mine.0 in
      let note = subst (λ r. HasRole chain kept writer keeper other r w.list) too theirs.0 in
      let base = subst (λ r. HasBase key r v.base) is mine.1 in
      let their_base = subst (λ r. HasBase key r w.base) too theirs.1 in
      let both = prefix_longer v.list w.list kept place note in (
        kept,
        p,
        (λ j far role list x. x),
        (
          subst (λ r. HasRole chain kept writer keeper id r (longer v.list w.list)) (sym is) both.2,
          mine.1,
          (
            refl,
            both.0,
            (
              their_base
                  ∙ sym base,
              both.1,
              tt,
            ),
          ),
        ),
      ))

  -- who knows what is kept takes in a note, with which its list begins
  confirms : (key blank : S) (id : ℕ) (v : View E S) (other : ℕ) (w : View E S) → w.role ≡ Pass
      → ((chain kept : List E) (writer keeper : ℕ) → IsPrefix kept chain → Fits key chain kept writer keeper id v
      → IsPrefix kept v.list × (v.base ≡ key))
      → Joins {S = T} (OneChain key) id v other w (confirmed v w) (spent blank)
  confirms key blank id v other w too knows = absorbs key blank id v other w _ (λ chain kept writer keeper p mine theirs.
      let note = subst (λ r. HasRole chain kept writer keeper other r w.list) too theirs.0 in
      let their_base = subst (λ r. HasBase key r w.base) too theirs.1 in
      let own = knows chain kept writer keeper p mine in (
        kept,
        p,
        (λ j far role list x. x),
        (mine.0, mine.1, (refl, prefix_self v.list, (their_base ∙ sym own.1, prefix_trans w.list kept v.list note own.0, tt))),
      ))

  pub writer_confirms : {key : S} (blank : S) {id : ℕ} {v : View E S} {other : ℕ} {w : View E S} → v.role ≡ Writer → w.role ≡ Pass
      → Joins {S = T} (OneChain key) id v other w (confirmed v w) (spent blank)
  writer_confirms {key} blank {id} {v} {other} {w} is too = confirms key blank id v other w too (λ chain kept writer keeper p mine.
      let place = subst (λ r. HasRole chain kept writer keeper id r v.list) is mine.0 in
      (subst (IsPrefix kept) (sym place.1) p, subst (λ r. HasBase key r v.base) is mine.1))

  pub keeper_confirms : {key : S} (blank : S) {id : ℕ} {v : View E S} {other : ℕ} {w : View E S} → v.role ≡ Keeper → w.role ≡ Pass → Joins {S = T} (OneChain key) id v other w (confirmed v w) (spent blank)
  keeper_confirms {key} blank {id} {v} {other} {w} is too = confirms key blank id v other w too (λ chain kept writer keeper p mine.
      let place = subst (λ r. HasRole chain kept writer keeper id r v.list) is mine.0 in
      (subst (IsPrefix kept) (sym place.1) (prefix_self kept), subst (λ r. HasBase key r v.base) is mine.1))

module _ {E S : Type 0} where
  -- the writer, who knows the chain, adds an entry
  pub appends : {key : S} (id : ℕ) {slots : ℕ} {m : Me (Unit {0}) (View E S)} {named : Option E} {entry : E} → named ≡ Some entry → m.0.role ≡ Writer → length m.0.list < LONGEST_CHAIN
      → Allows (OneChain key) slots id m 0 (λ n. (n + 1) % 2 ^ 64) (IsAppended named (step slots 0 1 0 none) m)
  appends {key} id {slots} {m} {entry} is_named is room s h long at fits_word =
      let mine = h.each id m.0 at in
      let place = subst (λ r. HasRole h.chain h.kept h.writer h.keeper id r m.0.list) is mine.0 in
      let base = subst (λ r. HasBase key r m.0.base) is mine.1 in
      let w = view Writer m.0.base (m.0.list ++ entry ∷ []) in
      let chain = h.chain ++ entry ∷ [] in
      let found : slice_index s.words 0 ≡ length h.chain = ap (λ ws. slice_index ws 0) h.words in
      let fits : length h.chain < LONGEST_CHAIN = subst (λ l. length l < LONGEST_CHAIN) place.1 room in
      let small : length h.chain + 1 < 2 ^ 64 = omega (arith, fits) in
      let now : (slice_index s.words 0 + 1) % 2 ^ 64 ≡ length chain = rw found (mod-eq_of_lt small ∙ sym (length-append h.chain (entry ∷ []))) in (
        w,
        keeps,
        tt,
        record {
          chain = chain;
          kept = h.kept;
          writer = h.writer;
          keeper = h.keeper;
          words = ap (λ ws. slice_set ws 0 ((slice_index s.words 0 + 1) % 2 ^ 64)) h.words ∙ ap (λ k. k ∷ []) now;
          behind = prefix_more h.kept h.chain (entry ∷ []) h.behind;
          each = each_set (λ j u. Fits key chain h.kept h.writer h.keeper j u) s.views id w
              (λ j u apart e. let x = h.each j u e in (longer_chain h.chain (entry ∷ []) h.kept h.writer h.keeper j (λ k. apart (k ∙ sym place.0)) u.role u.list x.0, x.1, x.2))
              ((place.0, ap (λ l. l ++ entry ∷ []) place.1), base, tt);
        },
        subst (λ o. IsAppended o (step slots 0 1 0 none) m (slice_index s.words 0) (w, m.1)) (sym is_named) refl,
      )

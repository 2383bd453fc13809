-- What a phase made of the custodian and the lanes, step by step.
use Rattle.std.proofs.Common.{◌≡◌, ◌≢◌, ◌⊎◌, ◌∙◌, sym, ap, subst, refl, ℕ, ◌<◌, Bool, List, [], ◌∷◌, length, get_or, Option, Some, None, arith, inl, inr}
use Rattle.std.specs.Prelude.{All, bytes_eq, codes, if◌then◌else◌}
use Rattle.std.proofs.lemmas.Bool.{cases_Bool}
use Rattle.std.proofs.lemmas.Bool.Decides.{eqb_tells}
use Rattle.std.proofs.lemmas.Slice.Eq.{bytes_eq-Decides}
use Rattle.tb_front.specs.Holders.{IsLater, Name}
use Rattle.tb_lanes.specs.declared.lane.Lane.{Lane}
use Rattle.tb_lanes.specs.Lanes.{HasRun, IsConfirmed, IsTold, Ran}
use Rattle.tb_lanes.specs.Phases.{lane_at, lines_at}
use Rattle.tb_lanes.specs.Runs.{AnalystRan, IsOwner, IsSwapped, LaneRan, PhaseRan, with_party}
use Rattle.tb_session.proofs.LegalParties.{lines_legal}
use Rattle.tb_lanes.proofs.Names.{same_lane}
use Rattle.tb_model.specs.Setups.{SetupValue}
use Rattle.tb_script.specs.Scripts.{ScriptValue, lanes_of, role_of_lane}
use Rattle.tb_serve.specs.Each.{Each}
use Rattle.tb_session.specs.Parties.{GoesOn, IsAnalystOf, IsOwnerOf, IsPartyOf, role_of, seen_by}
use Rattle.tb_session.specs.declared.party.Party.{Party}
use Rattle.tb_session.specs.declared.party.Party.TheVariants as party
use Rattle.tb_session.specs.declared.party.Role.{Role}
use Rattle.tb_session.specs.declared.party.Role.TheVariants as role

-- ---- who a party is
pub analyst_is : (name : Name) (shape : List ℕ) (p : Party) → IsAnalystOf name shape p → IsPartyOf name shape p
analyst_is name shape (party.Analyst pass) is = is
analyst_is name shape (party.Custodian c h) is = absurd is

pub owner_is : (name : Name) (shape : List ℕ) (p : Party) → IsOwnerOf name shape p → IsPartyOf name shape p
owner_is name shape (party.Analyst pass) is = absurd is
owner_is name shape (party.Custodian c h) is = is

-- who goes on as the custodian's party is it still
stays_owner : (name : Name) (shape : List ℕ) (old new : Party) → IsOwnerOf name shape old → GoesOn old new → IsPartyOf name shape new → IsOwnerOf name shape new
stays_owner name shape (party.Analyst a) new own on is = absurd own
stays_owner name shape (party.Custodian c h) (party.Analyst a) own on is = let who : role.Analyst ≡ role.Custodian = on.who in absurd (cc)
stays_owner name shape (party.Custodian c h) (party.Custodian d i) own on is = is

-- over the shape that a custodian has seen
pub owner_shape : (name : Name) (shape : List ℕ) (p : Party) → IsOwnerOf name shape p → (seen_by p).start.shape ≡ shape
owner_shape name shape (party.Analyst pass) is = absurd is
owner_shape name shape (party.Custodian c h) is = is.fits

pub owner_as_seen : (name : Name) (shape : List ℕ) (p : Party) → IsOwnerOf name shape p → IsOwnerOf name (seen_by p).start.shape p
owner_as_seen name shape p is = subst (λ (s : List ℕ). IsOwnerOf name s p) (sym (owner_shape name shape p is)) is

pub analysts_as_seen : {G : Type 0} (name : Name) (shape : List ℕ) (p : Party) (lanes : List (Lane G)) → IsOwnerOf name shape p
    → All (λ (lane : Lane G). IsAnalystOf name shape lane.party) lanes
    → All (λ (lane : Lane G). IsAnalystOf name (seen_by p).start.shape lane.party) lanes
analysts_as_seen {G} name shape p lanes is all = subst (λ (s : List ℕ). All (λ (lane : Lane G). IsAnalystOf name s lane.party) lanes)
    (sym (owner_shape name shape p is)) all

pub analysts_over_setup : {G : Type 0} (name : Name) (shape : List ℕ) (p : Party) (lanes : List (Lane G)) → IsOwnerOf name shape p
    → All (λ (lane : Lane G). IsAnalystOf name (seen_by p).start.shape lane.party) lanes
    → All (λ (lane : Lane G). IsAnalystOf name shape lane.party) lanes
analysts_over_setup {G} name shape p lanes is all = subst (λ (s : List ℕ). All (λ (lane : Lane G). IsAnalystOf name s lane.party) lanes)
    (owner_shape name shape p is) all

pub analyst_role : (name : Name) (shape : List ℕ) (p : Party) → IsAnalystOf name shape p → role_of p ≡ role.Analyst
analyst_role name shape (party.Analyst pass) is = refl
analyst_role name shape (party.Custodian c h) is = absurd is

pub analyst_by_role : (name : Name) (shape : List ℕ) (p : Party) → role_of p ≡ role.Analyst → IsPartyOf name shape p
    → IsAnalystOf name shape p
analyst_by_role name shape (party.Analyst pass) who is = is
analyst_by_role name shape (party.Custodian c h) who is = let wrong : role.Custodian ≡ role.Analyst = who in absurd (cc)

-- a lane's party stays the same one
pub ran_on : (setup : SetupValue) (lines : List (List ℕ)) (p q : Party) (sink : Option (List ℕ)) (spoke : Bool)
    → Ran setup lines p sink spoke q → GoesOn p q
ran_on setup lines p q sink spoke ran = (lines_legal setup p lines ran.replies q ran.legal).0

analyst_after : (name : Name) (shape : List ℕ) (setup : SetupValue) (lines : List (List ℕ)) (p q : Party) (sink : Option (List ℕ))
    (spoke : Bool) → Ran setup lines p sink spoke q → IsAnalystOf name shape p → IsPartyOf name shape q → IsAnalystOf name shape q
analyst_after name shape setup lines p q sink spoke ran was is = analyst_by_role name shape q
    ((ran_on setup lines p q sink spoke ran).who ∙ analyst_role name shape p was) is

-- ---- whose a lane is
custodians_name : (lane : List ℕ) → role_of_lane lane ≡ role.Custodian → lane ≡ codes "custodian"
custodians_name lane h = elim (cases_Bool (bytes_eq lane (codes "custodian"))) [
  | inl t ↦ (bytes_eq-Decides lane (codes "custodian")).0 t
  | inr t ↦ let wrong : role.Analyst ≡ role.Custodian = sym (ap (λ (b : Bool). if b then role.Custodian else role.Analyst) t) ∙ h in absurd
      (cc)
]

role_cases : (lane : List ℕ) → (role_of_lane lane ≡ role.Custodian) ⊎ (role_of_lane lane ≡ role.Analyst)
role_cases lane = elim (cases_Bool (bytes_eq lane (codes "custodian"))) [
  | inl t ↦ inl (ap (λ (b : Bool). if b then role.Custodian else role.Analyst) t)
  | inr t ↦ inr (ap (λ (b : Bool). if b then role.Custodian else role.Analyst) t)
]

-- every lane but the custodian's is an analyst's
other_lane : (script : ScriptValue) (k n : ℕ) → IsOwner script (Some k) → n < length (lanes_of script.lines) → n ≢ k
    → role_of_lane (lane_at script n) ≡ role.Analyst
other_lane script k n own lt other = elim (role_cases (lane_at script n)) [
  | inl h ↦ absurd (other (same_lane script n k lt own.0 (custodians_name (lane_at script n) h ∙ sym
      (custodians_name (lane_at script k) own.1))))
  | inr h ↦ h
]

-- ---- the lanes, where the custodian was swapped for the party of its lane and back
module _ {G : Type 0} (name : Name) (shape : List ℕ) (setup : SetupValue) (script : ScriptValue) (phase : ℕ) where
  All_at : (P : Party → Type 0) → List (Lane G) → Type 0
  All_at P lanes = All (λ (lane : Lane G). P lane.party) lanes

  pub all_parties : (lanes : List (Lane G)) → All (λ (lane : Lane G). IsAnalystOf name shape lane.party) lanes
      → All (λ (lane : Lane G). IsPartyOf name shape lane.party) lanes
  all_parties lanes h i d lt = analyst_is name shape (get_or lanes i d).party (h i d lt)

  -- with the custodian among them
  pub swapped_parties : (owner : Option ℕ) (own own' : Party) (lanes lanes' : List (Lane G)) → IsSwapped owner own own' lanes lanes'
      → IsOwnerOf name shape own
      → All (λ (lane : Lane G). IsAnalystOf name shape lane.party) lanes → All (λ (lane : Lane G). IsPartyOf name shape lane.party) lanes'
  swapped_parties None own own' lanes lanes' swapped is analysts i d lt =
      (subst (λ (ls : List (Lane G)). All (λ (lane : Lane G). IsPartyOf name shape lane.party) ls) (sym swapped.1)
      (all_parties lanes analysts)) i d lt
  swapped_parties (Some k) own own' lanes lanes' (same, there, here, others) is analysts i d lt =
      let below : i < length lanes = omega (arith, lt, same) in
      elim (eqb_tells i k) [
        | inl h ↦
            let at : get_or lanes' i d ≡ with_party own (get_or lanes k d) = ap (λ j. get_or lanes' j d) h.1 ∙ here d in
            subst (λ (lane : Lane G). IsPartyOf name shape lane.party) (sym at) (owner_is name shape own is)
        | inr h ↦ subst (λ (lane : Lane G). IsPartyOf name shape lane.party) (sym (others i d below h.1))
            (all_parties lanes analysts i d below)
      ]

  -- the steps of a phase
  module _ (owner : Option ℕ) (is_owner : IsOwner script owner) (own own2 own4 : Party)
      (lanes lanes1 lanes2 lanes3 lanes4 lanes5 : List (Lane G))
      (all : length lanes ≡ length (lanes_of script.lines)) (was_owner : IsOwnerOf name shape own)
      (analysts : All (λ (lane : Lane G). IsAnalystOf name shape lane.party) lanes1)
      (told : Each (λ _. IsTold (seen_by own)) lanes lanes1) (swapped : IsSwapped owner own own2 lanes1 lanes2)
      (run : Each (HasRun setup script phase) lanes2 lanes3) (parties : All (λ (lane : Lane G). IsPartyOf name shape lane.party) lanes3)
      (back : IsSwapped owner own2 own4 lanes3 lanes4)
    where
      -- a lane of an analyst between the two swaps
      abbrev Beside : ℕ → Lane G → Type 0
      Beside n d = (get_or lanes2 n d ≡ get_or lanes1 n d) × (get_or lanes4 n d ≡ get_or lanes3 n d)

      many2 : (o : Option ℕ) → IsSwapped o own own2 lanes1 lanes2 → length lanes2 ≡ length lanes1
      many2 None h = ap (λ (ls : List (Lane G)). length ls) h.1
      many2 (Some k) h = h.0

      many4 : (o : Option ℕ) → IsSwapped o own2 own4 lanes3 lanes4 → length lanes4 ≡ length lanes3
      many4 None h = ap (λ (ls : List (Lane G)). length ls) h.1
      many4 (Some k) h = h.0

      long1 : length lanes1 ≡ length lanes
      long1 = told.same_length

      long2 : length lanes2 ≡ length lanes
      long2 = many2 owner swapped ∙ long1

      long3 : length lanes3 ≡ length lanes
      long3 = run.same_length ∙ long2

      pub long4 : length lanes4 ≡ length lanes
      long4 = many4 owner back ∙ long3

      beside : (o : Option ℕ) → IsSwapped o own own2 lanes1 lanes2 → IsSwapped o own2 own4 lanes3 lanes4 → (n : ℕ) (d : Lane G)
          → n < length lanes → ((k : ℕ) → o ≡ Some k → n ≢ k) → Beside n d
      beside None h b n d lt other = (ap (λ (ls : List (Lane G)). get_or ls n d) h.1, ap (λ (ls : List (Lane G)). get_or ls n d) b.1)
      beside (Some k) h b n d lt other = (
        h.3 n d (omega (arith, lt, long1)) (other k refl),
        b.3 n d (omega (arith, lt, long3))
            (other k refl),
      )

      -- such a lane's lines were answered by its own analyst
      ran_beside : (n : ℕ) (d : Lane G) → n < length lanes → Beside n d
          → HasRun setup script phase n (get_or lanes1 n d) (get_or lanes4 n d)
      ran_beside n d lt (first, last) =
          let ran : HasRun setup script phase n (get_or lanes2 n d) (get_or lanes3 n d) = run.at n d (omega (arith, lt, long2)) in
          subst (λ (x : Lane G). HasRun setup script phase n (get_or lanes1 n d) x) (sym last)
          (subst (λ (x : Lane G). HasRun setup script phase n x (get_or lanes3 n d)) first ran)

      analyst_beside : (n : ℕ) (d : Lane G) → n < length lanes → Beside n d → IsAnalystOf name shape (get_or lanes4 n d).party
      analyst_beside n d lt (first, last) =
          let ran = ran_beside n d lt (first, last) in
          let is : IsPartyOf name shape (get_or lanes4 n d).party = subst (λ (x : Lane G). IsPartyOf name shape x.party) (sym last)
          (parties n d (omega (arith, lt, long3))) in
          analyst_after name shape setup (lines_at script phase n) (get_or lanes1 n d).party (get_or lanes4 n d).party
          (get_or lanes4 n d).sink (get_or lanes4 n d).spoke ran (analysts n d (omega (arith, lt, long1))) is

      -- the custodian's lane
      module _ (k : ℕ) (is_k : owner ≡ Some k) (d : Lane G) where
        at_k : IsSwapped (Some k) own own2 lanes1 lanes2
        at_k = subst (λ (o : Option ℕ). IsSwapped o own own2 lanes1 lanes2) is_k swapped

        back_k : IsSwapped (Some k) own2 own4 lanes3 lanes4
        back_k = subst (λ (o : Option ℕ). IsSwapped o own2 own4 lanes3 lanes4) is_k back

        owner_k : IsOwner script (Some k)
        owner_k = subst (λ (o : Option ℕ). IsOwner script o) is_k is_owner

        below_k : k < length lanes
        below_k = omega (arith, owner_k.0, all)

        own_before : (get_or lanes2 k d).party ≡ own
        own_before = ap (λ (x : Lane G). x.party) (at_k.2 d)

        own_after : own4 ≡ (get_or lanes3 k d).party
        own_after = back_k.1 d

        pub ran_owner : Ran setup (lines_at script phase k) own (get_or lanes4 k d).sink (get_or lanes4 k d).spoke own4
        ran_owner =
            let ran : HasRun setup script phase k (get_or lanes2 k d) (get_or lanes3 k d) = run.at k d (omega (arith, below_k, long2)) in
            let from_own : Ran setup (lines_at script phase k) own (get_or lanes3 k d).sink (get_or lanes3 k d).spoke
            (get_or lanes3 k d).party = subst (λ (p : Party). Ran setup (lines_at script phase k) p (get_or lanes3 k d).sink
            (get_or lanes3 k d).spoke (get_or lanes3 k d).party) own_before ran in
            let to_own : Ran setup (lines_at script phase k) own (get_or lanes3 k d).sink (get_or lanes3 k d).spoke own4 = subst
            (λ (p : Party). Ran setup (lines_at script phase k) own (get_or lanes3 k d).sink (get_or lanes3 k d).spoke p)
            (sym own_after) from_own in
            subst (λ (x : Lane G). Ran setup (lines_at script phase k) own x.sink x.spoke own4) (sym (back_k.2 d)) to_own

        spare_k : IsAnalystOf name shape (get_or lanes4 k d).party
        spare_k =
            let spare : own2 ≡ (get_or lanes1 k d).party = at_k.1 d in
            let party : (get_or lanes4 k d).party ≡ (get_or lanes1 k d).party = ap (λ (x : Lane G). x.party) (back_k.2 d) ∙ spare in
            subst (λ (p : Party). IsAnalystOf name shape p) (sym party) (analysts k d (omega (arith, below_k, long1)))

        owner_goes : GoesOn own own4
        owner_goes = ran_on setup (lines_at script phase k) own own4 (get_or lanes4 k d).sink (get_or lanes4 k d).spoke ran_owner

        owner_stays : IsOwnerOf name shape own4
        owner_stays = stays_owner name shape own own4 was_owner owner_goes (subst (λ (p : Party). IsPartyOf name shape p) (sym own_after)
            (parties k d (omega (arith, below_k, long3))))

      -- some lane, where there is one
      element : (xs : List (Lane G)) (i : ℕ) → i < length xs → Lane G
      element [] i h = absurd (omega (arith, h))
      element (x ∷ xs) i h = x

      goes_none : owner ≡ None → own4 ≡ own
      goes_none none = (subst (λ (o : Option ℕ). IsSwapped o own2 own4 lanes3 lanes4) none back).0 ∙
          (subst (λ (o : Option ℕ). IsSwapped o own own2 lanes1 lanes2) none swapped).0

      cases_owner : (o : Option ℕ) → owner ≡ o → (owner ≡ None) ⊎ ((k : ℕ) × (owner ≡ Some k))
      cases_owner None h = inl h
      cases_owner (Some k) h = inr (k, h)

      pub owner_back : IsOwnerOf name shape own4
      owner_back = elim (cases_owner owner refl) [
        | inl h ↦ subst (λ (p : Party). IsOwnerOf name shape p) (sym (goes_none h)) was_owner
        | inr h ↦
            let below : h.0 < length lanes = let o = subst (λ (x : Option ℕ). IsOwner script x) h.1 is_owner in omega (arith, o.0, all) in
            owner_stays h.0 h.1 (element lanes h.0 below)
      ]

      goes_back : GoesOn own own4
      goes_back = elim (cases_owner owner refl) [
        | inl h ↦ subst (λ (p : Party). GoesOn own p) (sym (goes_none h)) (record { who = refl; front = refl; start = refl })
        | inr h ↦
            let below : h.0 < length lanes = let o = subst (λ (x : Option ℕ). IsOwner script x) h.1 is_owner in omega (arith, o.0, all) in
            owner_goes h.0 h.1 (element lanes h.0 below)
      ]

      -- whether a lane is the custodian's
      whose : (n : ℕ) → (owner ≡ Some n) ⊎ ((k : ℕ) → owner ≡ Some k → n ≢ k)
      whose n = elim (cases_owner owner refl) [
        | inl h ↦ inr (λ k is same. let wrong = sym h ∙ is in absurd (cc))
        | inr h ↦ elim (eqb_tells n h.0) [
          | inl e ↦ inl (h.1 ∙ ap (λ k. Some k) (sym e.1))
          | inr e ↦ inr (λ k is same. let eq : Some h.0 ≡ Some k = sym h.1 ∙ is in let at : h.0 ≡ k = cc in e.1 (same ∙ sym at))
        ]
      ]

      pub analysts_back : All (λ (lane : Lane G). IsAnalystOf name shape lane.party) lanes4
      analysts_back n d lt =
          let below : n < length lanes = omega (arith, lt, long4) in
          elim (whose n) [
            | inl h ↦ spare_k n h d
            | inr h ↦ analyst_beside n d below (beside owner swapped back n d below h)
          ]

      -- and once the custodian confirmed them
      module _ (confirmed : Each (λ _. IsConfirmed (seen_by own4)) lanes4 lanes5) where
        same_at : (n : ℕ) (d : Lane G) → n < length lanes → get_or lanes5 n d ≡ get_or lanes4 n d
        same_at n d lt = (confirmed.at n d (omega (arith, lt, long4))).same

        pub confirmed_analysts : All (λ (lane : Lane G). IsAnalystOf name shape lane.party) lanes5
        confirmed_analysts n d lt =
            let below : n < length lanes = omega (arith, lt, confirmed.same_length, long4) in
            subst (λ (x : Lane G). IsAnalystOf name shape x.party) (sym (same_at n d below))
            (analysts_back n d (omega (arith, below, long4)))

        analyst_ran : (n : ℕ) (d : Lane G) → n < length lanes → Beside n d
            → AnalystRan setup (lines_at script phase n) own own4 (get_or lanes n d) (get_or lanes5 n d)
        analyst_ran n d lt b =
            let tells = told.at n d lt in
            let ran4 = ran_beside n d lt b in
            let lane5 = same_at n d lt in
            let behind4 = (confirmed.at n d (omega (arith, lt, long4))).behind in record {
              from = (get_or lanes1 n d).party;
              analyst = analyst_role name shape (get_or lanes1 n d).party (analysts n d (omega (arith, lt, long1)));
              before = tells.own;
              told = tells.told;
              ran = subst (λ (x : Lane G). Ran setup (lines_at script phase n) (get_or lanes1 n d).party x.sink x.spoke x.party) (sym lane5)
                  ran4;
              behind = subst (λ (x : Lane G). IsLater (seen_by x.party) (seen_by own4)) (sym lane5) behind4;
            }

        lane_ran : (n : ℕ) (d : Lane G) → n < length lanes → LaneRan (role_of_lane (lane_at script n)) setup (lines_at script phase n) own
            own4 (get_or lanes n d) (get_or lanes5 n d)
        lane_ran n d lt = elim (whose n) [
          | inl h ↦
              let o : IsOwner script (Some n) = subst (λ (x : Option ℕ). IsOwner script x) h is_owner in
              let ran5 : Ran setup (lines_at script phase n) own (get_or lanes5 n d).sink (get_or lanes5 n d).spoke own4 = subst
              (λ (x : Lane G). Ran setup (lines_at script phase n) own x.sink x.spoke own4) (sym (same_at n d lt)) (ran_owner n h d) in
              subst (λ (r : Role). LaneRan r setup (lines_at script phase n) own own4 (get_or lanes n d) (get_or lanes5 n d)) (sym o.1) ran5
          | inr h ↦
              let analyst : role_of_lane (lane_at script n) ≡ role.Analyst = elim (cases_owner owner refl) [
                | inl e ↦ (subst (λ (x : Option ℕ). IsOwner script x) e is_owner) n (omega (arith, lt, all))
                | inr e ↦ other_lane script e.0 n (subst (λ (x : Option ℕ). IsOwner script x) e.1 is_owner) (omega (arith, lt, all))
                    (h e.0 e.1)
              ] in
              subst (λ (r : Role). LaneRan r setup (lines_at script phase n) own own4 (get_or lanes n d) (get_or lanes5 n d)) (sym analyst)
              (analyst_ran n d lt (beside owner swapped back n d lt h))
        ]

        -- without a lane of its own the custodian stays
        stays_none : IsOwner script None → own4 ≡ own
        stays_none none = elim (cases_owner owner refl) [
          | inl h ↦ goes_none h
          | inr h ↦
              let o : IsOwner script (Some h.0) = subst (λ (x : Option ℕ). IsOwner script x) h.1 is_owner in
              let wrong : role.Custodian ≡ role.Analyst = sym o.1 ∙ none h.0 o.0 in absurd (cc)
        ]

        pub phase_ran : PhaseRan setup script phase own own4 lanes lanes5
        phase_ran = record {
          same_length = confirmed.same_length ∙ long4;
          goes_on = goes_back;
          none = stays_none;
          lanes_ran = lane_ran;
        }

-- The reply to `publish`, and where it leads. Nothing here speaks of the program.
use Rattle.std.specs.Prelude.{◌≡◌, ◌⊎◌, ◌+◌, ◌++◌, ◌∷◌, ℕ, List, [], Some, codes, decimal}
use Rattle.tb_model.specs.Releases.{ReleaseValue}
use Rattle.tb_release.specs.Batches.{BatchValue, CanFollow, batch_of, batch_refusal}
use Rattle.tb_release.specs.FaultNames as batch_names
use Rattle.tb_release.specs.declared.edits.Edit.{Edit}
use Rattle.tb_release.specs.declared.fault.EditFaultKind.{EditFaultKind}
use Rattle.tb_rows.specs.FaultNames.{FaultNameValue}
use Rattle.tb_tables.specs.ReplyLines.{memory_line}

-- where a party stands: the batches that it has seen, and the edits that it holds, which are the
-- custodian's alone
pub record StateValue : Type 0 where
  pub chain : List BatchValue
  pub held : List Edit

-- where one stands that has seen these batches, and holds no edits
abbrev pub after_seeing : List BatchValue → StateValue
after_seeing batches = record { chain = batches; held = [] }

-- where a party stands that begins a session: it lets go of the edits that it held
abbrev pub let_go : StateValue → StateValue
let_go state = after_seeing state.chain

-- a batch that is published: the number of the release to which it leads
abbrev pub published_line : ℕ → List ℕ
published_line number = codes "published " ++ decimal number ++ codes "\n"

-- a batch that is refused: the number of the edit, and the number and the word of the refusal
abbrev pub batch_refusal_line : ℕ → FaultNameValue → List ℕ
batch_refusal_line edit name =
    codes "refused batch " ++ decimal edit ++ codes " " ++ decimal name.number ++ codes " "
    ++ name.word ++ codes "\n"

-- `publish` where the held edits can follow the release: their batch is the chain's last
abbrev pub IsPublished : ReleaseValue → StateValue → List ℕ → StateValue → Type 0
IsPublished release state text next =
    CanFollow release state.held
    × (text ≡ published_line (release.number + 1))
    × (next ≡ record { chain = state.chain ++ batch_of release state.held ∷ []; held = [] })

-- `publish` where they can't: the chain stays
abbrev pub IsBatchRefusal : ReleaseValue → StateValue → List ℕ → StateValue → Type 0
IsBatchRefusal release state text next =
    (kind : EditFaultKind) × (edit : ℕ)
    × (batch_refusal release state.held ≡ Some (kind, edit))
    × (text ≡ batch_refusal_line edit (batch_names.fault_name kind))
    × (next ≡ record { chain = state.chain; held = [] })

-- the reply to `publish`: no edit is held after it, but where memory was refused
abbrev pub IsPublishReply : ReleaseValue → StateValue → List ℕ → StateValue → Type 0
IsPublishReply release state text next =
    IsPublished release state text next
    ⊎ (IsBatchRefusal release state text next ⊎ (text ≡ memory_line) × (next ≡ state))

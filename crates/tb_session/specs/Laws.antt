-- Laws of legal transcripts.
use Rattle.std.specs.Prelude.{◌≡◌, ◌≢◌, ◌⊎◌, ◌<◌, ◌≤◌, ◌^◌, ◌++◌, ◌∷◌, ℕ, List, [], All, codes}
use Rattle.std.specs.Prelude.{decimal, false, true}
use Rattle.std.specs.Prelude.{Option, length}
use mathlib.Core.List.{IsPrefix}
use Rattle.tb_describe.specs.Descriptions.{is_description}
use Rattle.tb_model.specs.Queries.{QueryValue}
use Rattle.tb_model.specs.Releases.{ReleaseValue}
use Rattle.tb_model.specs.Setups.{SetupValue}
use Rattle.tb_model.specs.Texts.{line_text}
use Rattle.tb_model.specs.Units.{UnitsValue}
use Rattle.tb_release.specs.Batches.{BatchValue}
use Rattle.tb_release.specs.Chains.{release_after}
use Rattle.tb_session.specs.Asks.{asks_of}
use Rattle.tb_lines.specs.Lines.{is_passed_over}
use Rattle.tb_lines.specs.Outputs.{ReplyValue}
use Rattle.tb_session.specs.PastTables.{oldest_of, past_reply}
use Rattle.tb_session.specs.Replies.{whole_of}
use Rattle.tb_ahead.specs.Publishing.{StateValue, published_line}
use Rattle.tb_session.specs.Transcripts.{IsLegal, IsStep}
use Rattle.tb_session.specs.declared.asks.Asks.TheVariants as asks
use Rattle.tb_session.specs.declared.party.Role.{Role}
use Rattle.tb_session.specs.declared.party.Role.TheVariants as role
use Rattle.tb_tables.specs.ReplyLines.{memory_line}

-- a legal transcript and a line more, with a legal reply, are one
abbrev pub OneMoreLine : Type 0
OneMoreLine =
    (who : Role) (setup : SetupValue) (base : ReleaseValue) (first middle last : StateValue)
    (lines : List (List ℕ)) (replies : List ReplyValue) (line : List ℕ) (reply : ReplyValue)
    → IsLegal who setup base first lines replies middle
    → IsStep who setup base middle line reply last
    → IsLegal who setup base first (lines ++ line ∷ []) (replies ++ reply ∷ []) last

-- two legal transcripts, of which one begins where the other ends, are one
abbrev pub MeetingTranscriptsJoin : Type 0
MeetingTranscriptsJoin =
    (who : Role) (setup : SetupValue) (base : ReleaseValue) (first middle last : StateValue)
    (lines more : List (List ℕ)) (replies others : List ReplyValue)
    → IsLegal who setup base first lines replies middle
    → IsLegal who setup base middle more others last
    → IsLegal who setup base first (lines ++ more) (replies ++ others) last

-- the batches that a party has seen stay, so its release numbers never fall
abbrev pub NumbersNeverFall : Type 0
NumbersNeverFall =
    (who : Role) (setup : SetupValue) (base : ReleaseValue) (first last : StateValue)
    (lines : List (List ℕ)) (replies : List ReplyValue)
    → IsLegal who setup base first lines replies last
    → IsPrefix first.chain last.chain
    × ((release_after base first.chain).number ≤ (release_after base last.chain).number)

-- the first line of a table, of dwellings or of persons, names how many batches lead from release
-- 0 to its release
abbrev pub TablesNameTheirList : Type 0
TablesNameTheirList =
    (setup : SetupValue) (base : ReleaseValue) (chain : List BatchValue)
    (units : Option UnitsValue) (query : QueryValue)
    → base.number ≡ 0
    → IsPrefix (line_text (codes "release " ++ decimal (length chain)))
    (whole_of setup (release_after base chain) units query).text

-- the first line of a table of release n of a chain, which wasn't taken back, names n
abbrev pub PastTablesNameTheirRelease : Type 0
PastTablesNameTheirRelease =
    (setup : SetupValue) (base : ReleaseValue) (chain : List BatchValue) (n : ℕ)
    (query : QueryValue)
    → base.number ≡ 0 → n ≤ length chain → oldest_of base chain ≤ n
    → IsPrefix (line_text (codes "release " ++ decimal n))
    (past_reply setup base chain n query).text

-- after the custodian's `published N`, its release is N until it asks to publish again
abbrev pub PublishedStays : Type 0
PublishedStays =
    (setup : SetupValue) (base : ReleaseValue) (before after last : StateValue)
    (line : List ℕ) (reply : ReplyValue) (n : ℕ) (lines : List (List ℕ))
    (replies : List ReplyValue)
    → IsStep role.Custodian setup base before line reply after
    → asks_of role.Custodian line ≡ asks.Publish
    → reply.text ≡ published_line n → n < 2 ^ 64
    → IsLegal role.Custodian setup base after lines replies last
    → All (λ l. asks_of role.Custodian l ≢ asks.Publish) lines
    → (release_after base last.chain).number ≡ n

-- in two worlds with equal schemas a line that `describe` begins gets the same reply, but where
-- memory was refused: whoever asks, and whatever the records, the rules and the batches
abbrev pub DescriptionsGoByTheSchema : Type 0
DescriptionsGoByTheSchema =
    (who who' : Role) (setup setup' : SetupValue) (base base' : ReleaseValue)
    (before before' after after' : StateValue) (line : List ℕ) (reply reply' : ReplyValue)
    → setup.schema ≡ setup'.schema
    → is_passed_over line ≡ false → is_description line ≡ true
    → IsStep who setup base before line reply after
    → IsStep who' setup' base' before' line reply' after'
    → (reply ≡ reply') ⊎ ((reply.text ≡ memory_line) ⊎ (reply'.text ≡ memory_line))

-- and changes nothing, not even what was seen
abbrev pub DescriptionsChangeNothing : Type 0
DescriptionsChangeNothing =
    (who : Role) (setup : SetupValue) (base : ReleaseValue) (before after : StateValue)
    (line : List ℕ) (reply : ReplyValue)
    → is_passed_over line ≡ false → is_description line ≡ true
    → IsStep who setup base before line reply after
    → after ≡ before

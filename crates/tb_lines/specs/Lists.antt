-- What became of the lines of a list that were answered one after another.
use Rattle.std.specs.Prelude.{◌+◌, ◌<◌, ℕ, List, [], ◌∷◌, ◌++◌, length, take, Option}
use Rattle.tb_io.specs.Taken.{Took}
use Rattle.tb_io.specs.declared.answers.Wrote.{Wrote}
use Rattle.tb_io.specs.declared.answers.Wrote.TheVariants as wrote
use Rattle.tb_lines.specs.Outputs.{ReplyValue, text_of}

-- a step at a line of a list: one who asks it does so by its text
abbrev pub StepBy : {S L W : Type 0} → (L → W → Type 0) → (L → List ℕ)
    → (W → S → List ℕ → ReplyValue → S → Type 0) → S → L → ReplyValue → S → Type 0
StepBy {W = W} Asks text Step old line reply new =
    (who : W) × Asks line who × Step who old (text line) reply new

-- of the lines of a list, where it is given which replies to which lines are legal and lead from a
-- state to another; the sink had taken `before` and then `after`
module _ {S L : Type 0} (Legal : S → List L → List ReplyValue → S → Type 0) where
  -- the replies to all lines were taken
  pub record AreAnswered (lines : List L) (first last : S) (before after : Option (List ℕ))
      : Type 0 where
    pub replies : List ReplyValue
    pub legal : Legal first lines replies last
    pub took : Took before after (text_of replies)

  -- a write failed in the reply to one of the lines, which leads to the last state: the replies to
  -- so many lines before it were taken, and a part of it
  pub record AreCutShort (lines : List L) (first last : S) (before after : Option (List ℕ))
      : Type 0 where
    pub count : ℕ
    pub among : count < length lines
    pub replies : List ReplyValue
    pub cut : ReplyValue
    pub legal : Legal first (take (count + 1) lines) (replies ++ cut ∷ []) last
    pub part : ℕ
    pub took : Took before after (text_of replies ++ take part cut.text)

-- what became of the lines, by how it ended
abbrev pub IsListAnswered : {S L : Type 0} → (S → List L → List ReplyValue → S → Type 0) → Wrote
    → List L → S → S → Option (List ℕ) → Option (List ℕ) → Type 0
IsListAnswered Legal wrote.All lines first last before after =
    AreAnswered Legal lines first last before after
IsListAnswered Legal wrote.Failed lines first last before after =
    AreCutShort Legal lines first last before after

-- A line has exactly one answer.
use Rattle.std.proofs.Common.{◌≡◌, ◌≢◌, ◌⊎◌, inl, inr, ℕ, Bool, true, false, List, Option, Some, None, sym, refl, ap, subst, ◌∙◌}
use Rattle.std.specs.Prelude.{if◌then◌else◌}
use Rattle.std.specs.List.{list_all}
use Rattle.std.specs.Option.{option_or}
use Rattle.tb_model.specs.Schemas.{SchemaValue}
use Rattle.tb_base.specs.Bytes.{is_text_byte}
use Rattle.tb_release.specs.declared.edits.Edit.{Edit}
use Rattle.tb_revise.specs.declared.fault.EditTextFault.{EditTextFault}
use Rattle.tb_revise.specs.declared.fault.EditTextFault.TheVariants as faults
use Rattle.tb_revise.specs.Faults.{fault_if, has_bad_number, has_unknown_name, has_unknown_code, misses_variable, sets_twice, settings_refusal, refusal, Reads, IsRefused}
use Rattle.tb_revise.specs.Grammar.{NamedSetting, NamedEdit, Spells, settings_of}
use Rattle.tb_revise.specs.Meanings.{edit_meant, sets_meant}
use Rattle.tb_revise.specs.Reading.{read_words}
use Rattle.tb_base.specs.Words.{words_of}
use Rattle.tb_revise.specs.Laws.{OneAnswer}
use Rattle.tb_revise.proofs.Spelled.{is-edit, no-edit, one_edit}

-- why a line is refused: it spells no edit, or one with this fault
data Why (schema : SchemaValue) (line : List ℕ) (f : EditTextFault) : Type 0 where
  by_grammar : f ≡ faults.Syntax → ((named : NamedEdit) → ¬ Spells line named) → Why schema line f
  by_meaning : (named : NamedEdit) → Spells line named → refusal schema named ≡ Some f → Why schema line f

why : (schema : SchemaValue) (line : List ℕ) (f : EditTextFault) → f ≢ faults.Memory → IsRefused schema line f → Why schema line f
why schema line faults.Syntax m h = by_grammar refl h
why schema line faults.BadNumber m h = by_meaning h.0 h.1 h.2
why schema line faults.UnknownName m h = by_meaning h.0 h.1 h.2
why schema line faults.UnknownCode m h = by_meaning h.0 h.1 h.2
why schema line faults.Repeated m h = by_meaning h.0 h.1 h.2
why schema line faults.Missing m h = by_meaning h.0 h.1 h.2
why schema line faults.Memory m h = absurd (m refl)

same-named : (line : List ℕ) (p q : NamedEdit) → Spells line p → Spells line q → p ≡ q
same-named line p q hp hq = one_edit (words_of line) p q hp.grammar hq.grammar

same_fault : (schema : SchemaValue) (line : List ℕ) (f g : EditTextFault) → Why schema line f → Why schema line g → f ≡ g
same_fault schema line f g (by_grammar ef hf) (by_grammar eg hg) = ef ∙ sym eg
same_fault schema line f g (by_grammar ef none) (by_meaning q is r) = absurd (none q is)
same_fault schema line f g (by_meaning p is r) (by_grammar eg none) = absurd (none p is)
same_fault schema line f g (by_meaning p is r) (by_meaning q is' r') =
    let some : Some f ≡ Some g = sym r ∙ ap (refusal schema) (same-named line p q is is') ∙ r' in
    cc

no_fault : (schema : SchemaValue) (line : List ℕ) (e : Edit) (f : EditTextFault) → Reads schema line e → Why schema line f → ⊥
no_fault schema line e f h (by_grammar ef none) = none h.named h.spelled
no_fault schema line e f h (by_meaning q is r) =
    let none : None ≡ Some f = sym h.no_fault ∙ ap (refusal schema) (same-named line h.named q h.spelled is) ∙ r in
    absurd (cc)

-- a fault of what words stand for
abbrev IsOfMeaning : EditTextFault → Type 0
IsOfMeaning faults.Syntax = ⊥
IsOfMeaning faults.Memory = ⊥
IsOfMeaning _ = Unit {0}

of-choice : (b : Bool) (f g : EditTextFault) (o : Option EditTextFault) → IsOfMeaning f → (o ≡ Some g → IsOfMeaning g) → (if b then Some f else o) ≡ Some g → IsOfMeaning g
of-choice true f g o h k e = let same : f ≡ g = cc in subst (λ x. IsOfMeaning x) same h
of-choice false f g o h k e = k e

of-nothing : (g : EditTextFault) → None ≡ Some g → IsOfMeaning g
of-nothing g e = absurd (cc)

of-settings : (schema : SchemaValue) (ss : List NamedSetting) (g : EditTextFault) → settings_refusal schema ss ≡ Some g → IsOfMeaning g
of-settings schema ss g e =
    of-choice (has_unknown_name schema ss) faults.UnknownName g _ tt
    (of-choice (has_unknown_code schema ss) faults.UnknownCode g _ tt
    (of-choice (sets_twice (sets_meant schema ss)) faults.Repeated g None tt (of-nothing g)))
    e

of-either : (o p : Option EditTextFault) (g : EditTextFault) → (o ≡ Some g → IsOfMeaning g) → (p ≡ Some g → IsOfMeaning g) → option_or o p ≡ Some g → IsOfMeaning g
of-either None p g h k e = k e
of-either (Some f) p g h k e = h e

of-refusal : (schema : SchemaValue) (named : NamedEdit) (g : EditTextFault) → refusal schema named ≡ Some g → IsOfMeaning g
of-refusal schema named g e =
    of-choice (has_bad_number schema.keys named) faults.BadNumber g _ tt
    (of-either (settings_refusal schema (settings_of named)) (fault_if (misses_variable schema named) faults.Missing) g (of-settings schema (settings_of named) g)
    (of-choice (misses_variable schema named) faults.Missing g None tt (of-nothing g)))
    e

abbrev Answered : SchemaValue → List ℕ → Type 0
Answered schema line = ((e : Edit) × Reads schema line e) ⊎ ((f : EditTextFault) × (f ≢ faults.Memory) × IsRefused schema line f)

pub refused_as : (schema : SchemaValue) (line : List ℕ) (named : NamedEdit) (f : EditTextFault) → IsOfMeaning f → Spells line named → refusal schema named ≡ Some f → IsRefused schema line f
refused_as schema line named faults.Syntax k is e = absurd k
refused_as schema line named faults.BadNumber k is e = (named, is, e)
refused_as schema line named faults.UnknownName k is e = (named, is, e)
refused_as schema line named faults.UnknownCode k is e = (named, is, e)
refused_as schema line named faults.Repeated k is e = (named, is, e)
refused_as schema line named faults.Missing k is e = (named, is, e)
refused_as schema line named faults.Memory k is e = absurd k

no-memory : (f : EditTextFault) → IsOfMeaning f → f ≢ faults.Memory
no-memory f k e = subst (λ x. IsOfMeaning x) e k

by_refusal : (schema : SchemaValue) (line : List ℕ) (named : NamedEdit) (v : Option EditTextFault) → Spells line named → refusal schema named ≡ v → Answered schema line
by_refusal schema line named None is e = inl (edit_meant schema named, record { named = named; spelled = is; no_fault = e; means = refl })
by_refusal schema line named (Some f) is e = let k = of-refusal schema named f e in inr (f, no-memory f k, refused_as schema line named f k is e)

by_words : (schema : SchemaValue) (line : List ℕ) (v : Option NamedEdit) → list_all is_text_byte line ≡ true → read_words (words_of line) ≡ v → Answered schema line
by_words schema line (Some named) t e = by_refusal schema line named (refusal schema named) (record { text = t; grammar = is-edit (words_of line) named e }) refl
by_words schema line None t e = inr (faults.Syntax, (λ m. absurd (cc)), (λ named is. no-edit (words_of line) e named is.grammar))

by_bytes : (schema : SchemaValue) (line : List ℕ) (v : Bool) → list_all is_text_byte line ≡ v → Answered schema line
by_bytes schema line false e = inr (faults.Syntax, (λ m. absurd (cc)), (λ named is. let t = is.text in absurd (cc)))
by_bytes schema line true e = by_words schema line (read_words (words_of line)) e refl

pub one_answer : OneAnswer
one_answer schema line = record {
  some_answer = by_bytes schema line (list_all is_text_byte line) refl;
  one_value = λ d e hd he. sym hd.means ∙ ap (edit_meant schema) (same-named line hd.named he.named hd.spelled he.spelled) ∙ he.means;
  one_fault = λ f g mf mg hf hg. same_fault schema line f g (why schema line f mf hf) (why schema line g mg hg);
  not_both = λ e f m he hf. no_fault schema line e f he (why schema line f m hf);
}

-- whether a fault is want of memory
pub is_memory : (f : EditTextFault) → (f ≡ faults.Memory) ⊎ (f ≢ faults.Memory)
is_memory faults.Memory = inl refl
is_memory _ = inr (λ e. absurd (cc))

-- A line has exactly one answer.
use Rattle.std.proofs.Common.{◌≡◌, ◌≢◌, ◌⊎◌, inl, inr, ℕ, ◌+◌, Bool, true, false, List, length, Option, Some, None, Result, Ok, Err, sym, refl, ap, subst, ◌∙◌}
use Rattle.std.specs.Prelude.{nat_lt}
use Rattle.std.specs.Option.{option_map, option_or}
use Rattle.tb_model.specs.Schemas.{SchemaValue}
use Rattle.tb_model.specs.Queries.{QueryValue}
use Rattle.tb_query.specs.declared.fault.QueryFault.{QueryFault}
use Rattle.tb_query.specs.declared.fault.QueryFault.TheVariants as faults
use Rattle.tb_query.specs.Bytes.{first_not_text}
use Rattle.tb_query.specs.Tokens.{tokens_of}
use Rattle.tb_query.specs.Grammar.{NamedQuery, IsQuery}
use Rattle.tb_query.specs.Meanings.{query_meant}
use Rattle.tb_query.specs.declared.limits.TheConstants.{MOST_DIMENSIONS, MOST_FILTERS}
use Rattle.tb_query.specs.Faults.{unknown_name, unknown_code, first_repeat, fault_if, is_too_large, refusal, Reads, IsNoQuery, IsRefused}
use Rattle.tb_query.specs.Steps.{start, steps_from}
use Rattle.tb_query.specs.Reading.{Tail, read_from}
use Rattle.tb_query.specs.Laws.{OneAnswer}
use Rattle.tb_query.proofs.Table.{one_query, read_has_query, no_query}

-- why a line is refused: for a byte, for its grammar, or for what its names and codes stand for
data Why (schema : SchemaValue) (line : List ℕ) (f : QueryFault) : Type 0 where
  by_byte : (i : ℕ) → f ≡ faults.NotText i → first_not_text line ≡ Some i → Why schema line f
  by_grammar : (i : ℕ) → f ≡ faults.Syntax i → first_not_text line ≡ None → IsNoQuery (tokens_of line) i → Why schema line f
  by_names : (named : NamedQuery) → first_not_text line ≡ None → IsQuery (tokens_of line) named → refusal schema named ≡ Some f → Why schema line f

why : (schema : SchemaValue) (line : List ℕ) (f : QueryFault) → f ≢ faults.Memory → IsRefused schema line f → Why schema line f
why schema line (faults.NotText i) m h = by_byte i refl h
why schema line (faults.Syntax i) m h = by_grammar i refl h.0 h.1
why schema line faults.Memory m h = absurd (m refl)
why schema line (faults.UnknownName i) m h = by_names h.1.0 h.0 h.1.1 h.1.2
why schema line (faults.UnknownCode i) m h = by_names h.1.0 h.0 h.1.1 h.1.2
why schema line (faults.RepeatedDimension i) m h = by_names h.1.0 h.0 h.1.1 h.1.2
why schema line faults.TooManyDimensions m h = by_names h.1.0 h.0 h.1.1 h.1.2
why schema line faults.TooManyFilters m h = by_names h.1.0 h.0 h.1.1 h.1.2
why schema line faults.TooLarge m h = by_names h.1.0 h.0 h.1.1 h.1.2

same_fault : (schema : SchemaValue) (line : List ℕ) (f g : QueryFault) → Why schema line f → Why schema line g → f ≡ g
same_fault schema line f g (by_byte i ef hf) (by_byte j eg hg) = let e : i ≡ j = cc in ef ∙ ap faults.NotText e ∙ sym eg
same_fault schema line f g (by_byte i ef hf) (by_grammar j eg hg m) = absurd (cc)
same_fault schema line f g (by_byte i ef hf) (by_names q hg is r) = absurd (cc)
same_fault schema line f g (by_grammar i ef hf n) (by_byte j eg hg) = absurd (cc)
same_fault schema line f g (by_grammar i ef hf n) (by_grammar j eg hg m) = let e : i ≡ j = sym n.read ∙ m.read in ef ∙ ap faults.Syntax e ∙ sym eg
same_fault schema line f g (by_grammar i ef hf n) (by_names q hg is r) = absurd (n.none q is)
same_fault schema line f g (by_names p hf is r) (by_byte j eg hg) = absurd (cc)
same_fault schema line f g (by_names p hf is r) (by_grammar j eg hg m) = absurd (m.none p is)
same_fault schema line f g (by_names p hf is r) (by_names q hg is' r') =
    let e : refusal schema p ≡ refusal schema q = ap (refusal schema) (one_query (tokens_of line) p q is is') in
    let some : Some f ≡ Some g = sym r ∙ e ∙ r' in
    cc

no_fault : (schema : SchemaValue) (line : List ℕ) (query : QueryValue) (f : QueryFault) → Reads schema line query → Why schema line f → ⊥
no_fault schema line query f h (by_byte i ef hf) = let t = h.text in absurd (cc)
no_fault schema line query f h (by_grammar i ef hf n) = n.none h.named h.grammar
no_fault schema line query f h (by_names q hf is r) =
    let e : refusal schema h.named ≡ refusal schema q = ap (refusal schema) (one_query (tokens_of line) h.named q h.grammar is) in
    let none : None ≡ Some f = sym h.no_fault ∙ e ∙ r in
    absurd (cc)

-- a fault of what names and codes stand for
abbrev IsOfNames : QueryFault → Type 0
IsOfNames (faults.NotText i) = ⊥
IsOfNames (faults.Syntax i) = ⊥
IsOfNames faults.Memory = ⊥
IsOfNames _ = Unit {0}

of_option : (o : Option ℕ) (c : ℕ → QueryFault) → ((n : ℕ) → IsOfNames (c n)) → (f : QueryFault) → option_map c o ≡ Some f → IsOfNames f
of_option None c h f e = absurd (cc)
of_option (Some n) c h f e = let same : c n ≡ f = cc in subst (λ x. IsOfNames x) same (h n)

of_test : (b : Bool) (g : QueryFault) → IsOfNames g → (f : QueryFault) → fault_if b g ≡ Some f → IsOfNames f
of_test true g h f e = let same : g ≡ f = cc in subst (λ x. IsOfNames x) same h
of_test false g h f e = absurd (cc)

of_first : (x y : Option QueryFault) → ((f : QueryFault) → x ≡ Some f → IsOfNames f) → ((f : QueryFault) → y ≡ Some f → IsOfNames f) → (f : QueryFault) → option_or x y ≡ Some f → IsOfNames f
of_first None y hx hy f e = hy f e
of_first (Some g) y hx hy f e = hx f e

of_refusal : (schema : SchemaValue) (q : NamedQuery) (f : QueryFault) → refusal schema q ≡ Some f → IsOfNames f
of_refusal schema q =
    of_first (option_map faults.UnknownName (unknown_name schema q)) _ (of_option (unknown_name schema q) faults.UnknownName (λ n. tt))
    (of_first (option_map faults.UnknownCode (unknown_code schema q.filters)) _ (of_option (unknown_code schema q.filters) faults.UnknownCode (λ n. tt))
    (of_first (option_map faults.RepeatedDimension (first_repeat q.dimensions)) _ (of_option (first_repeat q.dimensions) faults.RepeatedDimension (λ n. tt))
    (of_first (fault_if (nat_lt MOST_DIMENSIONS (length q.dimensions)) faults.TooManyDimensions) _ (of_test (nat_lt MOST_DIMENSIONS (length q.dimensions)) faults.TooManyDimensions tt)
    (of_first (fault_if (nat_lt MOST_FILTERS (length q.filters)) faults.TooManyFilters) _ (of_test (nat_lt MOST_FILTERS (length q.filters)) faults.TooManyFilters tt)
    (of_first (fault_if (is_too_large schema (query_meant schema q)) faults.TooLarge) _ (of_test (is_too_large schema (query_meant schema q)) faults.TooLarge tt)
    (λ f e. absurd (cc)))))))

-- a line is read, or refused
abbrev Answered : SchemaValue → List ℕ → Type 0
Answered schema line = ((q : QueryValue) × Reads schema line q) ⊎ ((f : QueryFault) × (f ≢ faults.Memory) × IsRefused schema line f)

refused_by : (schema : SchemaValue) (line : List ℕ) (q : NamedQuery) (f : QueryFault) → IsOfNames f → first_not_text line ≡ None → IsQuery (tokens_of line) q → refusal schema q ≡ Some f → Answered schema line
refused_by schema line q (faults.NotText i) k t is e = absurd k
refused_by schema line q (faults.Syntax i) k t is e = absurd k
refused_by schema line q faults.Memory k t is e = absurd k
refused_by schema line q (faults.UnknownName i) k t is e = inr (faults.UnknownName i, (λ m. absurd (cc)), (t, (q, is, e)))
refused_by schema line q (faults.UnknownCode i) k t is e = inr (faults.UnknownCode i, (λ m. absurd (cc)), (t, (q, is, e)))
refused_by schema line q (faults.RepeatedDimension i) k t is e = inr (faults.RepeatedDimension i, (λ m. absurd (cc)), (t, (q, is, e)))
refused_by schema line q faults.TooManyDimensions k t is e = inr (faults.TooManyDimensions, (λ m. absurd (cc)), (t, (q, is, e)))
refused_by schema line q faults.TooManyFilters k t is e = inr (faults.TooManyFilters, (λ m. absurd (cc)), (t, (q, is, e)))
refused_by schema line q faults.TooLarge k t is e = inr (faults.TooLarge, (λ m. absurd (cc)), (t, (q, is, e)))

by_refusal : (schema : SchemaValue) (line : List ℕ) (q : NamedQuery) (v : Option QueryFault) → first_not_text line ≡ None → IsQuery (tokens_of line) q → refusal schema q ≡ v → Answered schema line
by_refusal schema line q None t is e = inl (query_meant schema q, record { named = q; text = t; grammar = is; no_fault = e; means = refl })
by_refusal schema line q (Some f) t is e = refused_by schema line q f (of_refusal schema q f e) t is e

by_reading : (schema : SchemaValue) (line : List ℕ) (v : Result Tail ℕ) → first_not_text line ≡ None → read_from start (tokens_of line) ≡ v → Answered schema line
by_reading schema line (Ok r) t e =
    let here = read_has_query (tokens_of line) r e in
    by_refusal schema line here.0 (refusal schema here.0) t here.1 refl
by_reading schema line (Err left) t e =
    inr (faults.Syntax (steps_from start (tokens_of line) + 1), (λ m. absurd (cc)), (t, record { none = no_query (tokens_of line) left e; read = refl }))

by_bytes : (schema : SchemaValue) (line : List ℕ) (v : Option ℕ) → first_not_text line ≡ v → Answered schema line
by_bytes schema line (Some i) e = inr (faults.NotText i, (λ m. absurd (cc)), e)
by_bytes schema line None e = by_reading schema line (read_from start (tokens_of line)) e refl

pub one_answer : OneAnswer
one_answer schema line = record {
  some_answer = by_bytes schema line (first_not_text line) refl;
  one_value = λ p q hp hq. sym hp.means ∙ ap (query_meant schema) (one_query (tokens_of line) hp.named hq.named hp.grammar hq.grammar)
      ∙ hq.means;
  one_fault = λ f g mf mg hf hg. same_fault schema line f g (why schema line f mf hf) (why schema line g mg hg);
  not_both = λ q f m hq hf. no_fault schema line q f hq (why schema line f m hf);
}

-- whether a fault is want of memory
pub is_memory : (f : QueryFault) → (f ≡ faults.Memory) ⊎ (f ≢ faults.Memory)
is_memory faults.Memory = inl refl
is_memory _ = inr (λ e. absurd (cc))

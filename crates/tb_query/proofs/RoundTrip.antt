-- The canonical text of a query that was read has the tokens of the line that it was read from.
use Rattle.std.proofs.Common.{◌≡◌, ℕ, true, cond, List, [], ◌∷◌, ◌++◌, Option, Some, None, sym, refl, ap, ◌∙◌, subst}
use Rattle.std.specs.Prelude.{bytes_eq, codes, map}
use Rattle.std.specs.List.{AllByRecursion, flat_map}
use Rattle.std.specs.Option.{option_map}
use Rattle.std.proofs.lemmas.Slice.Eq.{bytes_eq-Decides}
use Rattle.std.proofs.lemmas.List.{map-append}
use Rattle.std.proofs.lemmas.List.Quantifiers.{position-Some}
use Rattle.std.proofs.Math.ListN.{get_or-map}
use Rattle.tb_model.specs.declared.names.NameOf.{NameOf}
use Rattle.tb_model.specs.declared.names.NameOf.TheVariants as name_of
use Rattle.tb_model.specs.Schemas.{SchemaValue, codes_of, name_text}
use Rattle.tb_model.specs.Queries.{QueryValue}
use Rattle.tb_query.specs.declared.tokens.Kind.{Kind}
use Rattle.tb_query.specs.declared.tokens.Kind.TheVariants as kind
use Rattle.tb_query.specs.declared.fault.QueryFault.TheVariants as faults
use Rattle.tb_query.specs.Tokens.{Token, cut, tokens_of, tokens_from}
use Rattle.tb_query.specs.Bytes.{first_not_text}
use Rattle.tb_query.specs.Grammar.{NamedFilter, NamedQuery, Piece, OfKind, NamePiece, CodePiece, IsQuery, separated_by, name_pieces, code_pieces, filter_pieces, where_pieces, with_pieces, query_pieces}
use Rattle.tb_schema.specs.Names.{place_in, variable_or, variable_names, recode_names}
use Rattle.tb_query.specs.Canonical.{code_text, piece_text, texts_of, join, name_token, code_token, named_filter, named_query, canonical_text}
use Rattle.tb_query.specs.Meanings.{name_of_token, code_of_token, name_meant, code_meant, filter_meant, query_meant}
use Rattle.tb_query.specs.Faults.{unknown_in, unknown_name, unknown_among, unknown_code_in, unknown_code, refusal, Reads}
use Rattle.tb_query.proofs.Found.{all_found}
use Rattle.tb_base.proofs.Options.{none_both}
use Rattle.tb_query.proofs.Refusals.{none_inside}
use Rattle.tb_query.proofs.Joins.{cut_texts, cut-join, AreText-join, cut_text, text_of_none, none_of_text}
use Rattle.tb_query.proofs.Texts.{query_texts}

same_bytes : (xs ys : List ℕ) → bytes_eq xs ys ≡ true → xs ≡ ys
same_bytes xs ys h = (bytes_eq-Decides xs ys).0 h

-- what a name stands for has that name
back_at : (schema : SchemaValue) (name : List ℕ) (of : NameOf) (p q : Option ℕ) → place_in (variable_names schema.variables) name ≡ p → place_in (recode_names schema.recodes) name ≡ q
    → variable_or p (option_map name_of.Recode q) ≡ Some of → name_text schema of ≡ name
back_at schema name of (Some i) q ep eq h =
    let here : name_of.Variable i ≡ of = cc in
    let at = position-Some (bytes_eq name) (variable_names schema.variables) i [] ep in
    let there = get_or-map (λ v. v.name) schema.variables i (record { name = []; categories = [] }) in
    subst (λ x. name_text schema x ≡ name) here (sym there ∙ sym (same_bytes name _ at.1))
back_at schema name of None (Some j) ep eq h =
    let here : name_of.Recode j ≡ of = cc in
    let at = position-Some (bytes_eq name) (recode_names schema.recodes) j [] eq in
    let there = get_or-map (λ r. r.name) schema.recodes j (record { name = []; variable = 0; groups = []; group_of = [] }) in
    subst (λ x. name_text schema x ≡ name) here (sym there ∙ sym (same_bytes name _ at.1))
back_at schema name of None None ep eq h = absurd (cc)

name_back : (schema : SchemaValue) (t : Token) (of : NameOf) → name_of_token schema t ≡ Some of → name_text schema of ≡ t.text
unfolding name_of_token
name_back schema t of h = back_at schema t.text of _ _ refl refl h

code_back : (schema : SchemaValue) (of : NameOf) (t : Token) (n : ℕ) → code_of_token schema of t ≡ Some n → code_text schema of n ≡ t.text
unfolding code_of_token
code_back schema of t n h = sym (same_bytes t.text _ (position-Some (bytes_eq t.text) (codes_of schema of) n [] h).1)

-- where no name is unknown, each stands for itself
abbrev NameKept : SchemaValue → Token → Type 0
NameKept schema t = name_text schema (name_meant schema t) ≡ t.text

names_kept : (schema : SchemaValue) (ts : List Token) → unknown_in schema ts ≡ None → AllByRecursion (NameKept schema) ts
names_kept schema ts h = all_found (name_of_token schema) (name_of.Variable 0) (λ t of. name_text schema of ≡ t.text) (name_back schema) ts h

abbrev CodeKept : SchemaValue → NameOf → Token → Type 0
CodeKept schema of t = code_text schema of (code_meant schema of t) ≡ t.text

codes_kept : (schema : SchemaValue) (of : NameOf) (ts : List Token) → unknown_among schema of ts ≡ None → AllByRecursion (CodeKept schema of) ts
codes_kept schema of ts h = all_found (code_of_token schema of) 0 (λ t n. code_text schema of n ≡ t.text) (code_back schema of) ts h

record FilterKept (schema : SchemaValue) (f : NamedFilter) : Type 0 where
  name : NameKept schema f.name
  codes_same : AllByRecursion (CodeKept schema (name_meant schema f.name)) f.codes

filters_kept : (schema : SchemaValue) (fs : List NamedFilter) → AllByRecursion (NameKept schema) (map (λ f. f.name) fs) → unknown_code schema fs ≡ None → AllByRecursion (FilterKept schema) fs
filters_kept schema [] hn hc = tt
filters_kept schema (f ∷ fs) hn hc =
    let c = none_both (unknown_code_in schema f) (unknown_code schema fs) hc in
    (record { name = hn.0; codes_same = codes_kept schema (name_meant schema f.name) f.codes c.0 }, filters_kept schema fs hn.1 c.1)

-- the texts of pieces whose tokens have the same texts
texts-append : (xs ys xs' ys' : List Piece) → texts_of xs ≡ texts_of xs' → texts_of ys ≡ texts_of ys' → texts_of (xs ++ ys) ≡ texts_of (xs' ++ ys')
texts-append xs ys xs' ys' hx hy = map-append piece_text xs ys ∙ ap (λ v. v ++ texts_of ys) hx ∙ ap (λ v. texts_of xs' ++ v) hy ∙ sym (map-append piece_text xs' ys')

module _ (k : Kind) (P : Token → Piece) (text : (t : Token) → piece_text (P t) ≡ t.text) {A : Type 0} (g : A → Token) (h : Token → A) where
  abbrev one : Token → List Piece
  one t = P t ∷ []

  more_same : (ts : List Token) → AllByRecursion (λ t. (g (h t)).text ≡ t.text) ts
      → texts_of (flat_map (λ y. OfKind k ∷ y) (map one (map g (map h ts)))) ≡ texts_of (flat_map (λ y. OfKind k ∷ y) (map one ts))
  more_same [] all = refl
  more_same (t ∷ ts) all =
      let here : piece_text (P (g (h t))) ≡ piece_text (P t) = text (g (h t)) ∙ all.0 ∙ sym (text t) in
      ap (λ x. piece_text (OfKind k) ∷ x ∷ texts_of (flat_map (λ y. OfKind k ∷ y) (map one (map g (map h ts))))) here
      ∙ ap (λ x. piece_text (OfKind k) ∷ piece_text (P t) ∷ x) (more_same ts all.1)

  separated_same : (ts : List Token) → AllByRecursion (λ t. (g (h t)).text ≡ t.text) ts
      → texts_of (separated_by k (map one (map g (map h ts)))) ≡ texts_of (separated_by k (map one ts))
  separated_same [] all = refl
  separated_same (t ∷ ts) all =
      let here : piece_text (P (g (h t))) ≡ piece_text (P t) = text (g (h t)) ∙ all.0 ∙ sym (text t) in
      ap (λ x. x ∷ texts_of (flat_map (λ y. OfKind k ∷ y) (map one (map g (map h ts))))) here
      ∙ ap (λ x. piece_text (P t) ∷ x) (more_same ts all.1)

filter_same : (schema : SchemaValue) (f : NamedFilter) → FilterKept schema f → texts_of (filter_pieces (named_filter schema (filter_meant schema f))) ≡ texts_of (filter_pieces f)
filter_same schema f kept =
    let of = name_meant schema f.name in
    let printed = code_pieces (map (code_token schema of) (map (code_meant schema of) f.codes)) in
    let cs = separated_same kind.Comma CodePiece (λ t. refl) (code_token schema of) (code_meant schema of) f.codes kept.codes_same in
    let closed = texts-append (separated_by kind.Comma printed) (OfKind kind.Close ∷ []) (separated_by kind.Comma (code_pieces f.codes)) (OfKind kind.Close ∷ []) cs refl in
    let nots : List Piece = cond f.negated (OfKind kind.Not ∷ []) [] in
    let after = texts-append nots (OfKind kind.In ∷ OfKind kind.Open ∷ (separated_by kind.Comma printed ++ OfKind kind.Close ∷ [])) nots (OfKind kind.In ∷ OfKind kind.Open ∷ (separated_by kind.Comma (code_pieces f.codes) ++ OfKind kind.Close ∷ []))
    refl (ap (λ x. codes "in" ∷ codes "(" ∷ x) closed) in
    λ i. kept.name i ∷ after i

more_filters_same : (schema : SchemaValue) (fs : List NamedFilter) → AllByRecursion (FilterKept schema) fs
    → texts_of (flat_map (λ y. OfKind kind.And ∷ y) (map filter_pieces (map (named_filter schema) (map (filter_meant schema) fs)))) ≡ texts_of (flat_map (λ y. OfKind kind.And ∷ y) (map filter_pieces fs))
more_filters_same schema [] all = refl
more_filters_same schema (f ∷ fs) all =
    let printed = named_filter schema (filter_meant schema f) in
    texts-append (OfKind kind.And ∷ filter_pieces printed) (flat_map (λ y. OfKind kind.And ∷ y) (map filter_pieces (map (named_filter schema) (map (filter_meant schema) fs))))
    (OfKind kind.And ∷ filter_pieces f) (flat_map (λ y. OfKind kind.And ∷ y) (map filter_pieces fs))
    (ap (λ x. codes "and" ∷ x) (filter_same schema f all.0)) (more_filters_same schema fs all.1)

where_same : (schema : SchemaValue) (fs : List NamedFilter) → AllByRecursion (FilterKept schema) fs
    → texts_of (where_pieces (map (named_filter schema) (map (filter_meant schema) fs))) ≡ texts_of (where_pieces fs)
where_same schema [] all = refl
where_same schema (f ∷ fs) all =
    let printed = named_filter schema (filter_meant schema f) in
    ap (λ x. codes "where" ∷ x)
    (texts-append (filter_pieces printed) (flat_map (λ y. OfKind kind.And ∷ y) (map filter_pieces (map (named_filter schema) (map (filter_meant schema) fs))))
    (filter_pieces f) (flat_map (λ y. OfKind kind.And ∷ y) (map filter_pieces fs))
    (filter_same schema f all.0) (more_filters_same schema fs all.1))

query_same : (schema : SchemaValue) (q : NamedQuery) → refusal schema q ≡ None → texts_of (query_pieces (named_query schema (query_meant schema q))) ≡ texts_of (query_pieces q)
query_same schema q no_fault =
    let n = none_both (option_map faults.UnknownName (unknown_name schema q)) _ no_fault in
    let c = none_both (option_map faults.UnknownCode (unknown_code schema q.filters)) _ n.1 in
    let names = none_both (unknown_in schema q.dimensions) (unknown_in schema (map (λ f. f.name) q.filters)) (none_inside (unknown_name schema q) faults.UnknownName n.0) in
    let fs = filters_kept schema q.filters (names_kept schema (map (λ f. f.name) q.filters) names.1) (none_inside (unknown_code schema q.filters) faults.UnknownCode c.0) in
    let ds = separated_same kind.By NamePiece (λ t. refl) (name_token schema) (name_meant schema) q.dimensions (names_kept schema q.dimensions names.0) in
    let meant = query_meant schema q in
    let printed = named_query schema meant in
    let ends : List Piece = with_pieces kind.Totals q.totals ++ with_pieces kind.Labels q.labels in
    let filters_and = texts-append (where_pieces printed.filters) ends (where_pieces q.filters) ends (where_same schema q.filters fs) refl in
    ap (λ x. codes "table" ∷ x)
    (texts-append (separated_by kind.By (name_pieces printed.dimensions)) (where_pieces printed.filters ++ ends) (separated_by kind.By (name_pieces q.dimensions)) (where_pieces q.filters ++ ends) ds filters_and)

-- the canonical text has the line's own tokens
same_cut : (schema : SchemaValue) (line : List ℕ) (q : NamedQuery) → IsQuery (tokens_of line) q → refusal schema q ≡ None → canonical_text schema (query_meant schema q) ≡ join (cut line)
same_cut schema line q is no_fault = ap join (query_same schema q no_fault ∙ query_texts line q (cut_texts line) is.spelled)

pub reads_again : (schema : SchemaValue) (line : List ℕ) (query : QueryValue) → Reads schema line query → Reads schema (canonical_text schema query) query
reads_again schema line query h =
    let printed : canonical_text schema query ≡ join (cut line) = ap (canonical_text schema) (sym h.means) ∙ same_cut schema line h.named h.grammar h.no_fault in
    let tokens : tokens_of (canonical_text schema query) ≡ tokens_of line = ap (λ x. tokens_from 1 (cut x)) printed ∙ ap (tokens_from 1) (cut-join (cut line) (cut_texts line)) in
    record {
      named = h.named;
      text = ap first_not_text printed ∙ none_of_text (join (cut line)) (AreText-join (cut line) (cut_text line (text_of_none line h.text)));
      grammar = subst (λ ts. IsQuery ts h.named) (sym tokens) h.grammar;
      no_fault = h.no_fault;
      means = h.means;
    }

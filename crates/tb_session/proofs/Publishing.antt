-- The custodian's release after `published N`.
use Rattle.std.proofs.Common.{◌≡◌, ◌≢◌, ◌∙◌, sym, ap, subst, refl, ℕ, ◌+◌, ◌<◌, ◌^◌, List, [], ◌∷◌, ◌++◌, length, length-append, inl, inr, arith}
use Rattle.std.specs.Prelude.{All, codes, decimal}
use Rattle.std.proofs.lemmas.Fmt.{decimal_injective}
use Rattle.std.proofs.lemmas.List.{append_cancel_left, append_cancel_right}
use Rattle.std.proofs.lemmas.List.Elements.{All-head, All-tail}
use Rattle.tb_model.specs.Releases.{ReleaseValue}
use Rattle.tb_model.specs.Setups.{SetupValue}
use Rattle.tb_release.specs.Batches.{BatchValue, batch_of}
use Rattle.tb_release.specs.Chains.{release_after}
use Rattle.tb_session.specs.Asks.{asks_of}
use Rattle.tb_session.specs.Laws.{PublishedStays}
use Rattle.tb_lines.specs.Outputs.{ReplyValue}
use Rattle.tb_ahead.specs.Publishing.{IsPublishReply, StateValue, published_line}
use Rattle.tb_session.specs.Replies.{IsReplyTo}
use Rattle.tb_session.specs.Transcripts.{IsLegal}
use Rattle.tb_session.proofs.Numbers.{number_after}
use Rattle.tb_session.specs.declared.asks.Asks.{Asks}
use Rattle.tb_session.specs.declared.asks.Asks.TheVariants as asks
use Rattle.tb_session.specs.declared.party.Role.TheVariants as role

-- a line that doesn't ask to publish leaves the batches
chain_stays : (what : Asks) (setup : SetupValue) (base : ReleaseValue) (state : StateValue) (line : List ℕ) (reply : ReplyValue) (next : StateValue) → what ≢ asks.Publish → IsReplyTo what setup base state line reply next → next.chain ≡ state.chain
chain_stays asks.Nothing setup base state line reply next other (is, goes) = ap (λ (s : StateValue). s.chain) goes
chain_stays asks.Description setup base state line reply next other (is, goes) = ap (λ (s : StateValue). s.chain) goes
chain_stays asks.Table setup base state line reply next other (is, goes) = ap (λ (s : StateValue). s.chain) goes
chain_stays (asks.At number) setup base state line reply next other (is, goes) = ap (λ (s : StateValue). s.chain) goes
chain_stays asks.Edit setup base state line reply next other (free, same, is) = same
chain_stays asks.Publish setup base state line reply next other is = absurd (other refl)
chain_stays asks.Stats setup base state line reply next other (free, is, goes) = ap (λ (s : StateValue). s.chain) goes
chain_stays asks.Clear setup base state line reply next other (is, goes) = ap (λ (s : StateValue). s.chain) goes
chain_stays (asks.Cache capacity) setup base state line reply next other (free, is, goes) = ap (λ (s : StateValue). s.chain) goes

chains_stay : (setup : SetupValue) (base : ReleaseValue) (lines : List (List ℕ)) (replies : List ReplyValue) (first last : StateValue) → All (λ l. asks_of role.Custodian l ≢ asks.Publish) lines
    → IsLegal role.Custodian setup base first lines replies last → last.chain ≡ first.chain
chains_stay setup base [] [] first last others e = ap (λ (s : StateValue). s.chain) e
chains_stay setup base [] (r ∷ rs) first last others e = absurd e
chains_stay setup base (x ∷ xs) [] first last others e = absurd e
chains_stay setup base (x ∷ xs) (r ∷ rs) first last others (next, (at, same, is), more) =
    let P : List ℕ → Type 0 = λ l. asks_of role.Custodian l ≢ asks.Publish in
    chains_stay setup base xs rs next last (All-tail P x xs others) more
    ∙ chain_stays (asks_of role.Custodian x) setup base at x r next (All-head P x xs others) is
    ∙ ap (λ (s : StateValue). s.chain) same

-- two lines that begin with other letters differ
same_head : (a b : ℕ) (xs ys : List ℕ) → a ∷ xs ≡ b ∷ ys → a ≡ b
same_head a b xs ys e = cc

other_refusal : (xs ys : List ℕ) → 114 ∷ xs ≡ 112 ∷ ys → ⊥
other_refusal xs ys e = omega (arith, same_head 114 112 xs ys e)

other_memory : (xs ys : List ℕ) → 109 ∷ xs ≡ 112 ∷ ys → ⊥
other_memory xs ys e = omega (arith, same_head 109 112 xs ys e)

-- the same number in one line
same_number : (m n : ℕ) → m < 2 ^ 64 → n < 2 ^ 64 → published_line m ≡ published_line n → m ≡ n
same_number m n few small e = decimal_injective m n few small (append_cancel_left (codes "published ") (decimal m) (decimal n) (append_cancel_right (codes "published " ++ decimal m) (codes "published " ++ decimal n) (codes "\n") e))

published_at : (base : ReleaseValue) (state next : StateValue) (text : List ℕ) (n : ℕ) → text ≡ published_line n → n < 2 ^ 64 → IsPublishReply (release_after base state.chain) state text next → (release_after base next.chain).number ≡ n
published_at base state next text n named small (inl (can, is, goes)) =
    let release : ReleaseValue = release_after base state.chain in
    let batch : BatchValue = batch_of release state.held in
    let before : release.number ≡ base.number + length state.chain = number_after base state.chain in
    let number : release.number + 1 ≡ n = same_number (release.number + 1) n (omega (arith, can.releases)) small (sym is ∙ named) in
    let chain : length next.chain ≡ length (state.chain ++ batch ∷ []) = ap (λ (s : StateValue). length s.chain) goes in
    omega (arith, number_after base next.chain, before, number, chain, length-append state.chain (batch ∷ []))
published_at base state next text n named small (inr (inl (kind, edit, why, is, goes))) = absurd (other_refusal _ _ (sym is ∙ named))
published_at base state next text n named small (inr (inr (is, goes))) = absurd (other_memory _ _ (sym is ∙ named))

pub published_stays : PublishedStays
published_stays setup base before after last line reply n lines replies (at, same, is) asked named small legal others =
    let stays : last.chain ≡ after.chain = chains_stay setup base lines replies after last others legal in
    let own : IsReplyTo asks.Publish setup base at line reply after = subst (λ (w : Asks). IsReplyTo w setup base at line reply after) asked is in
    ap (λ (chain : List BatchValue). (release_after base chain).number) stays ∙ published_at base at after reply.text n named small own.1

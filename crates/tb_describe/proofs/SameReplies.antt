-- Over equal schemas a line that `describe` begins gets the same reply, but where memory was refused.
use Rattle.std.proofs.Common.{◌≡◌, ◌⊎◌, ◌∙◌, sym, ap, ℕ, List, inl, inr}
use Rattle.tb_describe.specs.Descriptions.{IsDescription, description}
use Rattle.tb_lines.specs.Outputs.{ReplyValue}
use Rattle.tb_model.specs.Schemas.{SchemaValue}
use Rattle.tb_tables.specs.ReplyLines.{memory_line}

pub same_replies : (schema schema' : SchemaValue) (line : List ℕ) (reply reply' : ReplyValue) → schema ≡ schema' → IsDescription schema line reply → IsDescription schema' line reply'
    → (reply ≡ reply') ⊎ ((reply.text ≡ memory_line) ⊎ (reply'.text ≡ memory_line))
same_replies schema schema' line reply reply' same (free, inl is) (free', inl is') =
    let text : reply.text ≡ reply'.text = is ∙ ap (λ s. description s line) same ∙ sym is' in
    let price : reply.price ≡ reply'.price = free ∙ sym free' in
    inl (λ i. record { text = text i; price = price i })
same_replies schema schema' line reply reply' same (free, inl is) (free', inr is') = inr (inr is')
same_replies schema schema' line reply reply' same (free, inr is) is' = inr (inl is)

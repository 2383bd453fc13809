use Rattle.std.proofs.Common.{◌≡◌, ◌+◌, [], ◌∷◌, ◌++◌, take, length, List, ℕ, ap, refl, sym, ◌∙◌, append_assoc, arith, rules}
use Rattle.std.specs.Int.{w32, to_be_bytes}
use Rattle.std.specs.List.{flat_map}
use Rattle.std.proofs.lemmas.List.{take_all}
use Rattle.std.proofs.lemmas.List.Elements.{All-push, All-same}
use Rattle.tb_release.specs.declared.edits.Edit.{Edit}
use Rattle.tb_spelling.specs.Payloads.{IsInFormat}
use Rattle.tb_spelling.specs.Spelling.{edit_spelled}
use Rattle.tb_spelling.proofs.OneMore.{flat_map-taken, taken}
use Rattle.tb_spelling.proofs.write.spell_behind.Goals as goal

pub loop-i-preserved : goal.loop-i-preserved
loop-i-preserved c =
    let start = c.extend_from_slice.new.self.items in
    let before = flat_map edit_spelled (take c.loop-i.i c.args.edits.now) in
    let this = edit_spelled c.at.result.now in
    record {
      bytes = c.in_ok-put_edit.ensures.bytes
          ∙ ap (λ (l : List ℕ). l ++ this) c.loop-i.invariant.bytes
          ∙ append_assoc start before this
          ∙ ap (λ (l : List ℕ). start ++ l) (sym (flat_map-taken edit_spelled c.args.edits.now c.loop-i.i c.at.result.now c.at.ensures));
      in_format = All-same IsInFormat (take (c.loop-i.i + 1) c.args.edits.now) (take c.loop-i.i c.args.edits.now ++ c.at.result.now ∷ []) (taken c.args.edits.now c.loop-i.i c.at.result.now c.at.ensures) (All-push IsInFormat (take c.loop-i.i c.args.edits.now) c.at.result.now c.loop-i.invariant.in_format c.in_ok-put_edit.ensures.in_format);
    }

pub returns-clause-spelled : goal.returns-clause-spelled
returns-clause-spelled c =
    let all : take c.loop-i.i c.args.edits.now ≡ c.args.edits.now = take_all c.loop-i.i c.args.edits.now (omega (arith, c.loop-i-test.false, c.len-i-end.ensures.len)) in
    let count : c.to_be_bytes.result ≡ to_be_bytes w32 (length c.args.edits.now) = search rules in
    c.loop-i.invariant.bytes
    ∙ ap (λ (es : List Edit). c.extend_from_slice.new.self.items ++ flat_map edit_spelled es) all
    ∙ ap (λ (l : List ℕ). l ++ flat_map edit_spelled c.args.edits.now) c.in_ok-extend_from_slice.ensures.items
    ∙ append_assoc c.args.out.now.items c.to_be_bytes.result (flat_map edit_spelled c.args.edits.now)
    ∙ ap (λ (l : List ℕ). c.args.out.now.items ++ (l ++ flat_map edit_spelled c.args.edits.now)) count

pub returns-clause-payload : goal.returns-clause-payload
returns-clause-payload c =
    let all : take c.loop-i.i c.args.edits.now ≡ c.args.edits.now = take_all c.loop-i.i c.args.edits.now (omega (arith, c.loop-i-test.false, c.len-i-end.ensures.len)) in
    record {
      some = c.requires.some;
      few = omega (arith, c.len.ensures.len, c.len.ensures.few);
      in_format = All-same IsInFormat c.args.edits.now (take c.loop-i.i c.args.edits.now) (sym all) c.loop-i.invariant.in_format;
      is_spelled = refl;
    }

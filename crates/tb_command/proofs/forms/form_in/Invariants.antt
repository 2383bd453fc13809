use Rattle.std.proofs.Common.{◌≡◌, map, drop}
use Rattle.tb_command.specs.Forms.{form_in, form_value}
use Rattle.tb_command.proofs.forms.form_in.Given as goal

-- no row so far has the name
abbrev pub invariant-loop-form : goal.invariant-loop-form
invariant-loop-form l =
    form_in (map form_value l.rows) l.name ≡ form_in (map form_value (drop l.form-index l.rows)) l.name

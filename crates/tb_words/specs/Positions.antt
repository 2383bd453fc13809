-- The commands as clap sees them: one command with a subcommand for each, all of whose arguments
-- are positions.
use Rattle.std.specs.Prelude.{List, [], ◌∷◌, ◌++◌, fold, codes, true, map, Option, Some, None, unwrap_or}
use Rattle.clap.specs.Words.{App, Row, Rule, Text, first_of, new_app, new_rule, with_rule, with_subcommand}
use Rattle.tb_command.specs.Forms.{FormValue, form_in, forms}
use Rattle.tb_command.specs.Positions.{gen_positions, positions_of}

-- the positions of a row, or those of `gen`
abbrev pub positions_or_gen : Option FormValue → List Text
positions_or_gen (Some f) = positions_of f
positions_or_gen None = gen_positions

-- the positions of the command of a name
abbrev pub positions_named : Text → List Text
positions_named name = positions_or_gen (form_in forms name)

-- a position is a required argument without an option's name
abbrev pub position : Text → Rule
position name = record (new_rule name) { required = true }

abbrev pub with_position : App → Text → App
with_position a name = with_rule a (position name)

-- a command of these positions
abbrev pub command_with : Text → List Text → App
command_with name positions = fold with_position (new_app name) positions

-- the commands, row by row of the table, and `gen`
abbrev pub command_apps : List App
command_apps =
    map (λ f. command_with f.name (positions_of f)) forms
    ++ (command_with (codes "gen") gen_positions ∷ [])

-- the program before its commands are added: its words come without its own name, and it has no
-- help of its own
abbrev pub bare_program : App
bare_program =
    let a = new_app (codes "tablebuilder") in
    record a {
      top = record a.top {
        no_binary_name = true;
        disable_help_flag = true;
        disable_help_subcommand = true;
      };
    }

abbrev pub with_command : App → App → App
with_command a c = with_subcommand a c.top

abbrev pub program : App
program = fold with_command bare_program command_apps

-- what stands at a position
abbrev pub value_at : List Row → Text → Text
value_at rows name = unwrap_or (first_of name rows) []

-- the words that were found: a command's name, and what stands at each of its positions
abbrev pub words_found : Option (Text × List Row) → List Text
words_found None = []
words_found (Some (name, rows)) = name ∷ map (value_at rows) (positions_named name)

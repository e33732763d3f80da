-- The command line, as clap reads it.
use Rattle.std.specs.Prelude.{true, List, [], ◌∷◌, codes, Option, None, Some, unwrap_or, if◌then◌else◌}
use Rattle.std.specs.Str.{bytes_eq}
use Rattle.clap.specs.Words.{App, Row, Rule, Text, first_of, new_app, new_rule, with_rule, with_subcommand}
use Rattle.run_words.specs.declared.line.Line.{Line}
use Rattle.run_words.specs.declared.line.Line.TheVariants as line

-- A positional that has to be there.
abbrev pub positional : Text → Rule
positional id = record (new_rule id) { required = true }

-- `run URI`.
abbrev pub run_app : App
run_app = with_rule (new_app (codes "run")) (positional (codes "URI"))

-- `soak SEED N`.
abbrev pub soak_app : App
soak_app = with_rule (with_rule (new_app (codes "soak")) (positional (codes "SEED"))) (positional (codes "N"))

-- A command line that asks for a subcommand. The program's name is not among the words, and there are no flags and no `help`.
abbrev pub bare_app : App
bare_app = record (new_app (codes "mdc")) {
  top = record (new_app (codes "mdc")).top {
    no_binary_name = true;
    disable_help_flag = true;
    disable_help_subcommand = true;
    disable_version_flag = true;
    subcommand_required = true;
  };
}

-- The command line: one of the two.
abbrev pub line_app : App
line_app = with_subcommand (with_subcommand bare_app run_app.top) soak_app.top

-- The first value of an argument; empty where it has none.
abbrev pub value_in : Text → List Row → Text
value_in id rows = unwrap_or (first_of id rows) []

-- The words that a subcommand and its values are.
abbrev pub words_read : Option (Text × List Row) → List Text
words_read None = []
words_read (Some met) =
    if bytes_eq met.0 (codes "run") then codes "run" ∷ value_in (codes "URI") met.1 ∷ []
    else codes "soak" ∷ value_in (codes "SEED") met.1 ∷ value_in (codes "N") met.1 ∷ []

-- The words of a line of one of the two forms.
abbrev pub words_of : Line → List Text
words_of (line.Run uri) = codes "run" ∷ uri.now ∷ []
words_of (line.Soak seed count) = codes "soak" ∷ seed.now ∷ count.now ∷ []

-- The definitions at values worked out by hand.
use Rattle.std.proofs.Common.{◌≡◌, ℕ, [], ◌∷◌, Ok, Err, Some, None, codes, refl}
use Rattle.serde_json.specs.Data.{unsigned, Data, number, string, object, no_members, member}
use Rattle.cmd_build.specs.declared.command.Command.{Command}
use Rattle.cmd_build.specs.declared.command.Act.TheVariants.{Insert}
use Rattle.script_text.specs.declared.fault.ScriptKind.TheVariants as kind
use Rattle.script_text.specs.Commands.{command_from}
use Rattle.script_text.specs.Values.{lane_number}
use Rattle.script_text.specs.Lines.{lines_of, line_behind}
use Rattle.script_text.specs.Scripts.{fault_at, faults_of, script_reading}

-- a CR LF b
two_lines : lines_of (97 ∷ 13 ∷ 10 ∷ 98 ∷ []) ≡ (97 ∷ []) ∷ (98 ∷ []) ∷ []
two_lines = refl

-- a CR that no LF follows stays
last_line : lines_of (10 ∷ 97 ∷ 13 ∷ []) ≡ [] ∷ (97 ∷ 13 ∷ []) ∷ []
last_line = refl

behind_two_feeds : line_behind (97 ∷ 10 ∷ 10 ∷ 98 ∷ []) ≡ 3
behind_two_feeds = refl

lane_64 : lane_number (unsigned 64) ≡ Some 64
lane_64 = refl

lane_65 : lane_number (unsigned 65) ≡ None
lane_65 = refl

-- {"coll":"a","doc":{},"lane":n,"op":"insert"}
abbrev insert_in : ℕ → Data
insert_in n =
    object (member (codes "coll") (string (codes "a")) (member (codes "doc") (object no_members) (member (codes "lane") (number (unsigned n)) (member (codes "op") (string (codes "insert")) no_members))))

in_lane_1 : command_from (insert_in 1) ≡ Ok (record { lane = 1; db = None; coll = codes "a"; act = Insert (record { elements = [] }) })
unfolding command_from
in_lane_1 = refl

in_lane_0 : command_from (insert_in 0) ≡ Err kind.Lane
unfolding command_from
in_lane_0 = refl

without_a_lane : command_from (object (member (codes "coll") (string (codes "a")) (member (codes "op") (string (codes "insert")) no_members))) ≡ Err kind.Shape
unfolding command_from
without_a_lane = refl

-- one command too many, on line 7
too_many : (c : Command) → faults_of 100000 (record { number = 7; says = Ok c } ∷ []) ≡ fault_at 7 kind.Long ∷ []
too_many c = refl

blank : script_reading (32 ∷ 10 ∷ []) ≡ Ok []
unfolding script_reading
blank = refl

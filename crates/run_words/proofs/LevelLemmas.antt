-- What clap makes of the words behind `run` and behind `soak`.
use Rattle.std.proofs.Common.{◌≡◌, ◌∙◌, ℕ, Bool, false, refl, ap, ap₂, List, [], ◌∷◌}
use Rattle.clap.specs.Faults.{check_fault, defaults_fault, level_fault, settle_fault, step_fault, turn_fault, walk_fault}
use Rattle.clap.specs.Kinds.{Kinds, or_else}
use Rattle.clap.specs.Simple.{Shape, built}
use Rattle.clap.specs.Walk.{Held, Rule, Text, Walk, arg_by_index, finished, nothing_held, settled, to_positional, value, walked}
use Rattle.clap.specs.declared.error.kind.ErrorKind.TheVariants as kind
use Rattle.clap.proofs.OnLiterals.{clap_on_literals}
use Rattle.run_words.proofs.FlagLemmas.{IsNoFlag, at, value_turn, value_walked}
use Rattle.run_words.specs.Line.{line_app}

-- the kinds of one level, by its walk and the kinds on the way
abbrev pub level_by : Shape → Bool → Kinds → Walk → Kinds → Kinds
level_by s has below end met =
    or_else met (or_else below (or_else (settle_fault s.rules s.args_override_self end.held)
    (or_else (defaults_fault (settled s.rules end.held).rows s.rules) (check_fault s (finished s.rules end.held) has))))

abbrev first_of_two : List Shape → Shape
first_of_two (s ∷ rest) = s
first_of_two [] = line_app.top

abbrev second_of_two : List Shape → Shape
second_of_two (s ∷ t ∷ rest) = t
second_of_two _ = line_app.top

-- `run` and `soak`, as they are built
abbrev pub run : Shape
run = first_of_two (built line_app).subs

abbrev pub soak : Shape
soak = second_of_two (built line_app).subs

-- the walk over a word that is no flag, and the kinds that it gives
walk_one : (c : List Rule) (h : Held) (position : ℕ) (u : Text) → IsNoFlag u → walked c [] (at h position) u ≡ to_positional c (arg_by_index c position) u (at h position) h
walk_one c h position u p = value_walked [] u p refl c h position

turn_one : (s : Shape) (h : Held) (position : ℕ) (u : Text) → IsNoFlag u → turn_fault s [] (at h position) u ≡ step_fault s position h value
turn_one s h position u p = value_turn [] u p refl s h position

-- ---- run

pub run_none : level_fault run [] nothing_held [] false [] ≡ kind.MissingRequiredArgument ∷ []
unfolding clap_on_literals
run_none = refl

-- the walk behind the connection string
abbrev pub after_uri : Text → Walk
after_uri u = to_positional run.rules (arg_by_index run.rules 1) u (at nothing_held 1) nothing_held

pub uri_walked : (u : Text) → IsNoFlag u → walked run.rules [] (at nothing_held 1) u ≡ after_uri u
uri_walked u p = walk_one run.rules nothing_held 1 u p

pub run_more : (u x : Text) (xs : List Text) → IsNoFlag u → IsNoFlag x → level_fault run [] nothing_held (u ∷ x ∷ xs) false [] ≡ kind.UnknownArgument ∷ []
unfolding walk_fault
run_more u x xs p q =
    let second : turn_fault run [] (walked run.rules [] (at nothing_held 1) u) x ≡ kind.UnknownArgument ∷ [] =
    ap (λ w. turn_fault run [] w x) (uri_walked u p) ∙ turn_one run (after_uri u).held 2 x q in
    rw (turn_one run nothing_held 1 u p, second) refl

-- ---- soak

pub soak_none : level_fault soak [] nothing_held [] false [] ≡ kind.MissingRequiredArgument ∷ []
unfolding clap_on_literals
soak_none = refl

-- the walk behind the seed, and behind the number
abbrev pub after_seed : Text → Walk
after_seed u = to_positional soak.rules (arg_by_index soak.rules 1) u (at nothing_held 1) nothing_held

abbrev pub after_count : Text → Text → Walk
after_count u x = to_positional soak.rules (arg_by_index soak.rules 2) x (after_seed u) (after_seed u).held

seed_walked : (u : Text) → IsNoFlag u → walked soak.rules [] (at nothing_held 1) u ≡ after_seed u
seed_walked u p = walk_one soak.rules nothing_held 1 u p

pub count_walked : (u x : Text) → IsNoFlag u → IsNoFlag x → walked soak.rules [] (walked soak.rules [] (at nothing_held 1) u) x ≡ after_count u x
count_walked u x p q = ap (λ w. walked soak.rules [] w x) (seed_walked u p) ∙ walk_one soak.rules (after_seed u).held 2 x q

pub soak_one : (u : Text) → IsNoFlag u → level_fault soak [] nothing_held (u ∷ []) false [] ≡ kind.MissingRequiredArgument ∷ []
unfolding walk_fault defaults_fault
soak_one u p =
    let same : level_by soak false [] (walked soak.rules [] (at nothing_held 1) u) (or_else (turn_fault soak [] (at nothing_held 1) u) [])
    ≡ level_by soak false [] (after_seed u) (or_else (step_fault soak 1 nothing_held value) []) =
    ap₂ (λ w k. level_by soak false [] w (or_else k [])) (seed_walked u p) (turn_one soak nothing_held 1 u p) in
    same

pub soak_more : (u x y : Text) (ys : List Text) → IsNoFlag u → IsNoFlag x → IsNoFlag y → level_fault soak [] nothing_held (u ∷ x ∷ y ∷ ys) false [] ≡ kind.UnknownArgument ∷ []
unfolding walk_fault
soak_more u x y ys p q r =
    let second : turn_fault soak [] (walked soak.rules [] (at nothing_held 1) u) x ≡ [] =
    ap (λ w. turn_fault soak [] w x) (seed_walked u p) ∙ turn_one soak (after_seed u).held 2 x q in
    let third : turn_fault soak [] (walked soak.rules [] (walked soak.rules [] (at nothing_held 1) u) x) y ≡ kind.UnknownArgument ∷ [] =
    ap (λ w. turn_fault soak [] w y) (count_walked u x p q) ∙ turn_one soak (after_count u x).held 3 y r in
    rw (turn_one soak nothing_held 1 u p, second, third) refl

-- What clap reads of words of which none begins with a dash: where it takes them, its matches are the words.
use Rattle.std.proofs.Common.{◌≡◌, ◌∙◌, Bool, true, false, refl, sym, ap, ap₂, subst, List, [], ◌∷◌, Some, None, codes}
use Rattle.std.specs.List.{All, fold}
use Rattle.std.specs.Option.{is_some}
use Rattle.std.specs.Str.{bytes_eq}
use Rattle.std.proofs.lemmas.List.Elements.{All-head, All-tail}
use Rattle.std.proofs.lemmas.Slice.Eq.{bytes_eq-Decides}
use Rattle.clap.specs.Faults.{defaults_fault, entered_fault, fault_of, is_simple_and_free, level_fault, turn_fault, walk_fault}
use Rattle.clap.specs.Kinds.{Kinds, or_else}
use Rattle.clap.specs.Simple.{Shape, built, entered, is_simple, names_of, subcommand_of}
use Rattle.clap.specs.Walk.{Names, Text, Walk, finished, idle, nothing_held, subcommand_met, walk_from, walked}
use Rattle.clap.specs.declared.error.kind.ErrorKind.TheVariants as kind
use Rattle.clap.proofs.FaultLemmas.{stopped_fault}
use Rattle.clap.proofs.WalkLemmas.{walk_stopped}
use Rattle.run_words.proofs.FlagLemmas.{IsNoFlag, no_flags, value_turn}
use Rattle.run_words.proofs.LevelLemmas.{count_walked, level_by, run, run_more, run_none, soak, soak_more, soak_none, soak_one, uri_walked}
use Rattle.run_words.specs.Line.{line_app, words_read}
use Rattle.run_words.specs.Words.{dash_in}

pub line_simple : is_simple line_app ≡ true
line_simple = refl

pub line_free : is_simple_and_free line_app ≡ true
line_free = refl

abbrev names : Names
names = names_of (built line_app)

abbrev top : Shape
top = (built line_app).top

-- the walk stopped at that subcommand, with the words behind it
abbrev entered_at : Text → List Text → Walk
entered_at name rest = record (walk_from nothing_held) { stopped = Some (name, rest) }

abbrev line_by : Walk → Kinds → Kinds
line_by end met = level_by top (is_some (entered (built line_app) end.stopped)) (entered_fault (built line_app) end.stopped) end met

module _ (name : Text) (first : walked top.rules names (walk_from nothing_held) name ≡ entered_at name []) where
  walk_entered : (rest : List Text) → fold (walked top.rules names) (walk_from nothing_held) (name ∷ rest) ≡ entered_at name rest
  walk_entered rest = ap (λ w. fold (walked top.rules names) w rest) first ∙ sym (walk_stopped top.rules names (walk_from nothing_held) name [] rest)

  behind_entered : (rest : List Text) → walk_fault top names (walked top.rules names (walk_from nothing_held) name) rest ≡ []
  behind_entered rest = ap (λ w. walk_fault top names w rest) first ∙ stopped_fault top names (walk_from nothing_held) (name, []) rest

  line_entered : turn_fault top names (walk_from nothing_held) name ≡ [] → (rest : List Text) → fault_of line_app (name ∷ rest) ≡ line_by (entered_at name rest) []
  unfolding walk_fault
  line_entered turn rest = ap₂ line_by (walk_entered rest) (ap₂ or_else turn (behind_entered rest))

-- ---- run

run_first : walked top.rules names (walk_from nothing_held) (codes "run") ≡ entered_at (codes "run") []
unfolding walked
run_first = refl

run_fault : (rest : List Text) → fault_of line_app (codes "run" ∷ rest) ≡ or_else (level_fault run [] nothing_held rest false []) []
unfolding defaults_fault
run_fault rest = line_entered (codes "run") run_first refl rest

-- the matches of a connection string
run_read : (u : Text) → IsNoFlag u → words_read (subcommand_of line_app (codes "run" ∷ u ∷ [])) ≡ codes "run" ∷ u ∷ []
run_read u p =
    ap (λ (w : Walk). words_read (entered (built line_app) w.stopped)) (walk_entered (codes "run") run_first (u ∷ []))
    ∙ ap (λ (w : Walk). words_read (Some (codes "run", finished run.rules w.held))) (uri_walked u p)

run_reads : (rest : List Text) → All IsNoFlag rest → fault_of line_app (codes "run" ∷ rest) ≡ [] → words_read (subcommand_of line_app (codes "run" ∷ rest)) ≡ codes "run" ∷ rest
run_reads [] all e =
    let bad : kind.MissingRequiredArgument ∷ [] ≡ [] = ap (λ k. or_else k []) (sym run_none) ∙ sym (run_fault []) ∙ e in
    cc
run_reads (u ∷ []) all e = run_read u (All-head IsNoFlag u [] all)
run_reads (u ∷ x ∷ xs) all e =
    let rest = All-tail IsNoFlag u (x ∷ xs) all in
    let more = run_more u x xs (All-head IsNoFlag u (x ∷ xs) all) (All-head IsNoFlag x xs rest) in
    let bad : kind.UnknownArgument ∷ [] ≡ [] = ap (λ k. or_else k []) (sym more) ∙ sym (run_fault (u ∷ x ∷ xs)) ∙ e in
    cc

-- ---- soak

soak_first : walked top.rules names (walk_from nothing_held) (codes "soak") ≡ entered_at (codes "soak") []
unfolding walked
soak_first = refl

soak_fault : (rest : List Text) → fault_of line_app (codes "soak" ∷ rest) ≡ or_else (level_fault soak [] nothing_held rest false []) []
unfolding defaults_fault
soak_fault rest = line_entered (codes "soak") soak_first refl rest

-- the matches of a seed and a number
soak_read : (u x : Text) → IsNoFlag u → IsNoFlag x → words_read (subcommand_of line_app (codes "soak" ∷ u ∷ x ∷ [])) ≡ codes "soak" ∷ u ∷ x ∷ []
soak_read u x p q =
    ap (λ (w : Walk). words_read (entered (built line_app) w.stopped)) (walk_entered (codes "soak") soak_first (u ∷ x ∷ []))
    ∙ ap (λ (w : Walk). words_read (Some (codes "soak", finished soak.rules w.held))) (count_walked u x p q)

soak_reads : (rest : List Text) → All IsNoFlag rest → fault_of line_app (codes "soak" ∷ rest) ≡ [] → words_read (subcommand_of line_app (codes "soak" ∷ rest)) ≡ codes "soak" ∷ rest
soak_reads [] all e =
    let bad : kind.MissingRequiredArgument ∷ [] ≡ [] = ap (λ k. or_else k []) (sym soak_none) ∙ sym (soak_fault []) ∙ e in
    cc
soak_reads (u ∷ []) all e =
    let bad : kind.MissingRequiredArgument ∷ [] ≡ [] = ap (λ k. or_else k []) (sym (soak_one u (All-head IsNoFlag u [] all))) ∙ sym (soak_fault (u ∷ [])) ∙ e in
    cc
soak_reads (u ∷ x ∷ []) all e = soak_read u x (All-head IsNoFlag u (x ∷ []) all) (All-head IsNoFlag x [] (All-tail IsNoFlag u (x ∷ []) all))
soak_reads (u ∷ x ∷ y ∷ ys) all e =
    let rest = All-tail IsNoFlag u (x ∷ y ∷ ys) all in
    let more = soak_more u x y ys (All-head IsNoFlag u (x ∷ y ∷ ys) all) (All-head IsNoFlag x (y ∷ ys) rest) (All-head IsNoFlag y ys (All-tail IsNoFlag x (y ∷ ys) rest)) in
    let bad : kind.UnknownArgument ∷ [] ≡ [] = ap (λ k. or_else k []) (sym more) ∙ sym (soak_fault (u ∷ x ∷ y ∷ ys)) ∙ e in
    cc

-- ---- the line

-- no words, and a first word that is neither
none_fault : fault_of line_app [] ≡ kind.MissingSubcommand ∷ []
unfolding walk_fault defaults_fault
none_fault = refl

other_fault : (w : Text) (rest : List Text) → IsNoFlag w → subcommand_met names idle w ≡ None → fault_of line_app (w ∷ rest) ≡ kind.UnknownArgument ∷ kind.InvalidSubcommand ∷ []
unfolding walk_fault
other_fault w rest p own =
    ap (λ k. line_by (fold (walked top.rules names) (walk_from nothing_held) (w ∷ rest)) (or_else k (walk_fault top names (walked top.rules names (walk_from nothing_held) w) rest)))
    (value_turn names w p own top nothing_held 1)

line_read : (words : List Text) → All IsNoFlag words → fault_of line_app words ≡ [] → words_read (subcommand_of line_app words) ≡ words
line_read [] all e =
    let bad : kind.MissingSubcommand ∷ [] ≡ [] = sym none_fault ∙ e in
    cc
line_read (w ∷ rest) all e = go (bytes_eq (codes "run") w) (bytes_eq (codes "soak") w) refl refl
  where
    go : (a b : Bool) → bytes_eq (codes "run") w ≡ a → bytes_eq (codes "soak") w ≡ b → words_read (subcommand_of line_app (w ∷ rest)) ≡ w ∷ rest
    go true b is _ =
        subst (λ v. fault_of line_app (v ∷ rest) ≡ [] → words_read (subcommand_of line_app (v ∷ rest)) ≡ v ∷ rest) ((bytes_eq-Decides (codes "run") w).0 is)
        (run_reads rest (All-tail IsNoFlag w rest all)) e
    go false true _ is =
        subst (λ v. fault_of line_app (v ∷ rest) ≡ [] → words_read (subcommand_of line_app (v ∷ rest)) ≡ v ∷ rest) ((bytes_eq-Decides (codes "soak") w).0 is)
        (soak_reads rest (All-tail IsNoFlag w rest all)) e
    go false false first second =
        let own : subcommand_met names idle w ≡ None = rw (first, second) refl in
        let bad : kind.UnknownArgument ∷ kind.InvalidSubcommand ∷ [] ≡ [] = sym (other_fault w rest (All-head IsNoFlag w rest all) own) ∙ e in
        cc

-- where clap finds no fault, the matches are the words
pub line_reads : (words : List Text) → dash_in words ≡ None → fault_of line_app words ≡ [] → words_read (subcommand_of line_app words) ≡ words
line_reads words none e = line_read words (no_flags words none) e

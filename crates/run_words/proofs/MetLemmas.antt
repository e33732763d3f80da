-- The words that clap's matches are.
use Rattle.std.proofs.Common.{◌≡◌, ◌∙◌, true, false, refl, ap, List, [], ◌∷◌, Option, Some, None, codes, Box}
use Rattle.std.specs.Option.{option_map, unwrap_or}
use Rattle.std.specs.Box.{box_value}
use Rattle.std.specs.Str.{bytes_eq}
use Rattle.clap.specs.Words.{Row, Text, first_value, rows_of, subcommand_name_of, subcommand_rows, subcommand_rows_of}
use Rattle.clap.specs.declared.parser.matches.ArgMatches.{ArgMatches}
use Rattle.clap.specs.declared.parser.matches.ArgMatches.TheViews.{out-ArgMatches, out-SubCommand}
use Rattle.clap.specs.declared.parser.matches.Found.{Found}
use Rattle.clap.specs.declared.parser.matches.SubCommand.{SubCommand}
use Rattle.clap.proofs.WalkLemmas.{first_value-rows}
use Rattle.run_words.specs.Line.{value_in, words_read}

-- the name that was met stands in front of the rows
name_met : (m : ArgMatches) → subcommand_name_of m ≡ option_map (λ p. p.0) (subcommand_rows_of m)
name_met m = go (out-ArgMatches m).subcommand
  where
    go : {Z : Type 0} (o : Option (Box SubCommand Z)) → option_map (λ b. (out-SubCommand (box_value b)).name.now) o ≡ option_map (λ p. p.0) (subcommand_rows o)
    go None = refl
    go (Some b) = refl

both_met : (o : Option (Text × List Row)) (name : Text) (rows : List Row) → Some name ≡ option_map (λ p. p.0) o → Some rows ≡ option_map (λ p. p.1) o → Some (name, rows) ≡ o
both_met None name rows e f = absurd (cc)
both_met (Some p) name rows e f =
    let first : name ≡ p.0 = ap (λ o. unwrap_or o name) e in
    let second : rows ≡ p.1 = ap (λ o. unwrap_or o rows) f in
    rw (first, second) refl

value_met : (f : Found) (id value : Text) → Some value ≡ first_value f id → value ≡ value_in id (rows_of f)
value_met f id value e = ap (λ o. unwrap_or o []) (e ∙ first_value-rows f id)

pub run_met : (m : ArgMatches) (name uri : Text) (f : Found) → Some name ≡ subcommand_name_of m → Some (rows_of f) ≡ option_map (λ p. p.1) (subcommand_rows_of m)
    → bytes_eq name (codes "run") ≡ true → Some uri ≡ first_value f (codes "URI") → codes "run" ∷ uri ∷ [] ≡ words_read (subcommand_rows_of m)
run_met m name uri f e rows is value =
    let met = both_met (subcommand_rows_of m) name (rows_of f) (e ∙ name_met m) rows in
    let read : codes "run" ∷ uri ∷ [] ≡ words_read (Some (name, rows_of f)) = rw (is, value_met f (codes "URI") uri value) refl in
    read ∙ ap words_read met

pub soak_met : (m : ArgMatches) (name seed count : Text) (f : Found) → Some name ≡ subcommand_name_of m → Some (rows_of f) ≡ option_map (λ p. p.1) (subcommand_rows_of m)
    → bytes_eq name (codes "run") ≡ false → Some seed ≡ first_value f (codes "SEED") → Some count ≡ first_value f (codes "N")
    → codes "soak" ∷ seed ∷ count ∷ [] ≡ words_read (subcommand_rows_of m)
soak_met m name seed count f e rows is first second =
    let met = both_met (subcommand_rows_of m) name (rows_of f) (e ∙ name_met m) rows in
    let read : codes "soak" ∷ seed ∷ count ∷ [] ≡ words_read (Some (name, rows_of f)) =
    rw (is, value_met f (codes "SEED") seed first, value_met f (codes "N") count second) refl in
    read ∙ ap words_read met

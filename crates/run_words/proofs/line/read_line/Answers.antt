use Rattle.std.proofs.Common.{◌≡◌, ◌∙◌, sym, ap, List, [], map}
use Rattle.std.proofs.lemmas.Option.{IfSome_then}
use Rattle.clap.specs.Words.{Text, fault_of, is_simple, is_simple_and_free, subcommand_of, subcommand_rows_of}
use Rattle.run_words.proofs.LineLemmas.{line_free, line_reads, line_simple}
use Rattle.run_words.specs.Line.{line_app, words_read}
use Rattle.run_words.proofs.line.read_line.Goals as goal

-- Clap finds no fault in words that it takes, so that its matches are those of the words.
pub returns-in-Ok-try_get_matches_from : goal.returns-in-Ok-try_get_matches_from
returns-in-Ok-try_get_matches_from c =
    let words : List Text = map (λ w. w.now) c.args.words.now in
    let app = c.in-Ok.ensures in
    let parsed = c.in-Ok-try_get_matches_from in
    let rows = (parsed.ensures.matches (ap is_simple app ∙ line_simple)).1 in
    let none : fault_of line_app words ≡ [] = ap (λ a. fault_of a words) (sym app) ∙ parsed.ensures.kinds (ap is_simple_and_free app ∙ line_free) in
    let read : words_read (subcommand_rows_of parsed.matches) ≡ words =
    ap words_read (rows ∙ ap (λ a. subcommand_of a words) app) ∙ line_reads words c.requires none in
    IfSome_then c.line_in.result c.line_in.ensures (λ line said. said ∙ read)

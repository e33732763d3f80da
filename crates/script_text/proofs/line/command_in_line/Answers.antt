use Rattle.std.proofs.Common.{◌≡◌, Ok, Option, IfOk, IfErr, sym, subst}
use Rattle.serde_json.specs.Data.{Data}
use Rattle.serde_json.specs.View.{view}
use Rattle.script_text.specs.Commands.{says_of, Stops}
use Rattle.script_text.proofs.ParsedLemmas.{parsed-some}
use Rattle.script_text.proofs.line.command_in_line.Goals as goal

pub returns-in-Ok-clause-ok : goal.returns-in-Ok-clause-ok
returns-in-Ok-clause-ok c =
    let is = parsed-some c.args.line.now (view c.in-Ok.value) c.in-Ok.ensures.ok.0 c.in-Ok.ensures.ok.1 in
    let P : Option Data → Type 0 = λ o. IfOk c.command_of.result (λ k. says_of o ≡ Ok k) in
    subst P (sym is) c.command_of.ensures.ok

pub returns-in-Ok-clause-stop : goal.returns-in-Ok-clause-stop
returns-in-Ok-clause-stop c =
    let is = parsed-some c.args.line.now (view c.in-Ok.value) c.in-Ok.ensures.ok.0 c.in-Ok.ensures.ok.1 in
    let P : Option Data → Type 0 = λ o. IfErr c.command_of.result (λ s. Stops s (says_of o)) in
    subst P (sym is) c.command_of.ensures.stop

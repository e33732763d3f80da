use Rattle.std.proofs.Common.{◌≡◌, ◌<◌, ◌+◌, refl, sym, ap, ◌∙◌, subst, Some, w32, to_z, of_z, rules, ℤ}
use Rattle.std.specs.Option.{IfNone, IfSome}
use Rattle.desk_trail.specs.Clients.{Client, connect_limit}
use Rattle.desk_trail.specs.States.{CommandState}
use Rattle.desk_core.specs.Steps.{for_greeting}
use Rattle.std.specs.Prelude.{Option, slice_get}
use Rattle.cmd_reply.specs.declared.greeting.GreetingResult.{GreetingResult}
use Rattle.cmd_reply.specs.declared.greeting.GreetingResult.TheVariants as greeting
use Rattle.desk_trail.specs.Legal.{Point}
use Rattle.legal_trail.specs.Recorded.{Recorded}
use Rattle.desk_core.specs.Greetings.{IsDialledBy}
use Rattle.desk_core.specs.Hearing.{HearsGreeting}
use Rattle.cmd_reply.specs.declared.waiting.Waiting.{Waiting}
use Rattle.write_retry.specs.declared.events.Unsent.TheVariants as unsent
use Rattle.desk_trail.specs.Facts as fact
use Rattle.wired_trail.specs.Hearing.{TellsHeard}
use Rattle.desk_core.proofs.HeardLemmas.{TellsGreeting, greets-heard}
use Rattle.desk_core.proofs.AppendsLemmas.{grown-same}
use Rattle.desk_core.proofs.GreetingLemmas.{MovesOne-room, grown-room}
use Rattle.desk_core.proofs.state.Core.greet.Goals as goal

pub returns-in_err-result-clause-appends : goal.returns-in_err-result-clause-appends
returns-in_err-result-clause-appends g c =
    grown-room c.args.moment c.args.self.now.trail c.turn_greeting.new.self.trail (ap (λ d. d.trail) c.turn_greeting.ensures.same)

pub returns-in_default-2-clause-moves : goal.returns-in_default-2-clause-moves
returns-in_default-2-clause-moves g c =
    MovesOne-room c.args.op c.args.operation.now c.args.self.now.trail c.turn_greeting.new.self.trail (ap (λ d. d.trail) c.turn_greeting.ensures.same) c.requires.work.there

pub returns-in_default-2-clause-means : goal.returns-in_default-2-clause-means
returns-in_default-2-clause-means g c =
    let since = c.in_ok-since.since in
    let limits =
    subst (λ o. IfSome o (λ limit. (client : Client) → client.settings ≡ c.settings.result.now → limit ≡ since + connect_limit client)) c.in_ok-limit.ensures.ok_part
    c.greeting_limit.ensures.limit in
    let dialled = sym (ap (λ (x : CommandState). x.dialled) c.operation.view_is) ∙ sym c.dialled.ensures.dialled ∙ c.in_ok-since.ensures.ok_part in
    record {
      for_what =
          for_greeting c.requires.dials.0 c.requires.dials.1 c.requires.dials.2 since c.requires.dials.3 dialled
          (limits c.args.self.now.trail.client (rw (← c.self.view_is) (sym c.settings.ensures.value)));
      later = subst (λ o. IfNone o (c.args.moment < c.in_ok-limit.limit)) c.in_default-2.is c.in_ok-result.ensures.early;
    }

pub returns-in_default-2-clause-appends : goal.returns-in_default-2-clause-appends
returns-in_default-2-clause-appends g c =
    grown-room c.args.moment c.args.self.now.trail c.turn_greeting.new.self.trail (ap (λ d. d.trail) c.turn_greeting.ensures.same)

pub returns-in_err-since-clause-appends : goal.returns-in_err-since-clause-appends
returns-in_err-since-clause-appends g c = grown-same c.args.moment c.args.self.now.trail c.args.self.now.trail refl refl refl

pub returns-in_err-limit-clause-appends : goal.returns-in_err-limit-clause-appends
returns-in_err-limit-clause-appends g c = grown-same c.args.moment c.args.self.now.trail c.args.self.now.trail refl refl refl

pub settle_greeted-requires-clause-heard : goal.settle_greeted-requires-clause-heard
settle_greeted-requires-clause-heard g c = λ tells.
    let since = c.in_ok-since.since in
    let limits =
    subst (λ o. IfSome o (λ limit. (client : Client) → client.settings ≡ c.settings.result.now → limit ≡ since + connect_limit client)) c.in_ok-limit.ensures.ok_part
    c.greeting_limit.ensures.limit in
    let dialled = sym (ap (λ (x : CommandState). x.dialled) c.operation.view_is) ∙ sym c.dialled.ensures.dialled ∙ c.in_ok-since.ensures.ok_part in
    let limit = limits c.args.self.now.trail.client (rw (← c.self.view_is) (sym c.settings.ensures.value)) in
    let r : Recorded = c.turn_greeting.new.self.trail in
    let same : r ≡ record c.args.self.now.trail { room = r.room } = ap (λ d. d.trail) c.turn_greeting.ensures.same in
    let point : r.point ≡ c.args.self.now.trail.point = ap (λ (t : Recorded). t.point) same in
    let by = subst (λ (x : CommandState). IsDialledBy c.args.self.now.trail.point.state x c.in-Some.dialled) c.operation.view_is c.in-Some.ensures.dialled in
    let waiting : Waiting = record { id = to_z w32 (of_z w32 c.operation.inside.awaited); limit = c.in_ok-limit.limit } in
    let heard =
    subst (λ (o : Option GreetingResult). IfSome o (HearsGreeting (g.N.Net.history c.turn_greeting.new.self.net) r c.in-Some.dialled.stream waiting c.args.moment)) c.in-Some-2.is (c.in_ok-result.ensures.hears tells) in
    let told : TellsGreeting (g.N.Net.history c.turn_greeting.new.self.net) r c.args.moment c.args.op c.in-Some.dialled.host c.in-Some.dialled.conn c.in-Some-2.result =
    greets-heard (g.N.Net.history c.turn_greeting.new.self.net) r c.args.op c.args.moment c.in_ok-limit.limit since (to_z w32 (of_z w32 c.operation.inside.awaited)) c.args.operation.now c.in-Some.dialled c.in-Some-2.result
    (subst (λ (p : Point). slice_get p.state.commands c.args.op ≡ Some c.args.operation.now) (sym point) c.requires.work.there)
    (subst (λ (p : Point). IsDialledBy p.state c.args.operation.now c.in-Some.dialled) (sym point) by) dialled
    (limit ∙ ap (λ (t : Recorded). since + connect_limit t.client) (sym same)) heard in
    let said : TellsGreeting (g.N.Net.history c.turn_greeting.new.self.net) r c.args.moment c.args.op c.in-Some.dialled.host c.in-Some.dialled.conn (greeting.Greeted c.in-Greeted.time) =
    subst (TellsGreeting (g.N.Net.history c.turn_greeting.new.self.net) r c.args.moment c.args.op c.in-Some.dialled.host c.in-Some.dialled.conn) c.in-Greeted.is told in
    said.0

pub settle_greeted-requires-clause-came : goal.settle_greeted-requires-clause-came
settle_greeted-requires-clause-came g c = λ tells.
    let since = c.in_ok-since.since in
    let limits =
    subst (λ o. IfSome o (λ limit. (client : Client) → client.settings ≡ c.settings.result.now → limit ≡ since + connect_limit client)) c.in_ok-limit.ensures.ok_part
    c.greeting_limit.ensures.limit in
    let dialled = sym (ap (λ (x : CommandState). x.dialled) c.operation.view_is) ∙ sym c.dialled.ensures.dialled ∙ c.in_ok-since.ensures.ok_part in
    let limit = limits c.args.self.now.trail.client (rw (← c.self.view_is) (sym c.settings.ensures.value)) in
    let r : Recorded = c.turn_greeting.new.self.trail in
    let same : r ≡ record c.args.self.now.trail { room = r.room } = ap (λ d. d.trail) c.turn_greeting.ensures.same in
    let point : r.point ≡ c.args.self.now.trail.point = ap (λ (t : Recorded). t.point) same in
    let by = subst (λ (x : CommandState). IsDialledBy c.args.self.now.trail.point.state x c.in-Some.dialled) c.operation.view_is c.in-Some.ensures.dialled in
    let waiting : Waiting = record { id = to_z w32 (of_z w32 c.operation.inside.awaited); limit = c.in_ok-limit.limit } in
    let heard =
    subst (λ (o : Option GreetingResult). IfSome o (HearsGreeting (g.N.Net.history c.turn_greeting.new.self.net) r c.in-Some.dialled.stream waiting c.args.moment)) c.in-Some-2.is (c.in_ok-result.ensures.hears tells) in
    let told : TellsGreeting (g.N.Net.history c.turn_greeting.new.self.net) r c.args.moment c.args.op c.in-Some.dialled.host c.in-Some.dialled.conn c.in-Some-2.result =
    greets-heard (g.N.Net.history c.turn_greeting.new.self.net) r c.args.op c.args.moment c.in_ok-limit.limit since (to_z w32 (of_z w32 c.operation.inside.awaited)) c.args.operation.now c.in-Some.dialled c.in-Some-2.result
    (subst (λ (p : Point). slice_get p.state.commands c.args.op ≡ Some c.args.operation.now) (sym point) c.requires.work.there)
    (subst (λ (p : Point). IsDialledBy p.state c.args.operation.now c.in-Some.dialled) (sym point) by) dialled
    (limit ∙ ap (λ (t : Recorded). since + connect_limit t.client) (sym same)) heard in
    let said : TellsGreeting (g.N.Net.history c.turn_greeting.new.self.net) r c.args.moment c.args.op c.in-Some.dialled.host c.in-Some.dialled.conn (greeting.Greeted c.in-Greeted.time) =
    subst (TellsGreeting (g.N.Net.history c.turn_greeting.new.self.net) r c.args.moment c.args.op c.in-Some.dialled.host c.in-Some.dialled.conn) c.in-Greeted.is told in
    said.1

pub fail_dialled-requires-clause-heard : goal.fail_dialled-requires-clause-heard
fail_dialled-requires-clause-heard g c = λ tells.
    let since = c.in_ok-since.since in
    let limits =
    subst (λ o. IfSome o (λ limit. (client : Client) → client.settings ≡ c.settings.result.now → limit ≡ since + connect_limit client)) c.in_ok-limit.ensures.ok_part
    c.greeting_limit.ensures.limit in
    let dialled = sym (ap (λ (x : CommandState). x.dialled) c.operation.view_is) ∙ sym c.dialled.ensures.dialled ∙ c.in_ok-since.ensures.ok_part in
    let limit = limits c.args.self.now.trail.client (rw (← c.self.view_is) (sym c.settings.ensures.value)) in
    let r : Recorded = c.turn_greeting.new.self.trail in
    let same : r ≡ record c.args.self.now.trail { room = r.room } = ap (λ d. d.trail) c.turn_greeting.ensures.same in
    let point : r.point ≡ c.args.self.now.trail.point = ap (λ (t : Recorded). t.point) same in
    let by = subst (λ (x : CommandState). IsDialledBy c.args.self.now.trail.point.state x c.in-Some.dialled) c.operation.view_is c.in-Some.ensures.dialled in
    let waiting : Waiting = record { id = to_z w32 (of_z w32 c.operation.inside.awaited); limit = c.in_ok-limit.limit } in
    let heard =
    subst (λ (o : Option GreetingResult). IfSome o (HearsGreeting (g.N.Net.history c.turn_greeting.new.self.net) r c.in-Some.dialled.stream waiting c.args.moment)) c.in-Some-2.is (c.in_ok-result.ensures.hears tells) in
    let told : TellsGreeting (g.N.Net.history c.turn_greeting.new.self.net) r c.args.moment c.args.op c.in-Some.dialled.host c.in-Some.dialled.conn c.in-Some-2.result =
    greets-heard (g.N.Net.history c.turn_greeting.new.self.net) r c.args.op c.args.moment c.in_ok-limit.limit since (to_z w32 (of_z w32 c.operation.inside.awaited)) c.args.operation.now c.in-Some.dialled c.in-Some-2.result
    (subst (λ (p : Point). slice_get p.state.commands c.args.op ≡ Some c.args.operation.now) (sym point) c.requires.work.there)
    (subst (λ (p : Point). IsDialledBy p.state c.args.operation.now c.in-Some.dialled) (sym point) by) dialled
    (limit ∙ ap (λ (t : Recorded). since + connect_limit t.client) (sym same)) heard in
    let said : TellsGreeting (g.N.Net.history c.turn_greeting.new.self.net) r c.args.moment c.args.op c.in-Some.dialled.host c.in-Some.dialled.conn (greeting.Refused c.in-Refused.code c.in-Refused.time) =
    subst (TellsGreeting (g.N.Net.history c.turn_greeting.new.self.net) r c.args.moment c.args.op c.in-Some.dialled.host c.in-Some.dialled.conn) c.in-Refused.is told in
    let code : to_z w32 (of_z w32 c.in-Refused.code) ≡ c.in-Refused.code = search rules in
    subst (λ (z : ℤ). TellsHeard (g.N.Net.history c.turn_greeting.new.self.net) r c.args.moment (fact.NotLent c.args.op c.in-Some.dialled.host (unsent.Greeting z))) (sym code) said.0

pub fail_dialled-requires-clause-came : goal.fail_dialled-requires-clause-came
fail_dialled-requires-clause-came g c = λ tells.
    let since = c.in_ok-since.since in
    let limits =
    subst (λ o. IfSome o (λ limit. (client : Client) → client.settings ≡ c.settings.result.now → limit ≡ since + connect_limit client)) c.in_ok-limit.ensures.ok_part
    c.greeting_limit.ensures.limit in
    let dialled = sym (ap (λ (x : CommandState). x.dialled) c.operation.view_is) ∙ sym c.dialled.ensures.dialled ∙ c.in_ok-since.ensures.ok_part in
    let limit = limits c.args.self.now.trail.client (rw (← c.self.view_is) (sym c.settings.ensures.value)) in
    let r : Recorded = c.turn_greeting.new.self.trail in
    let same : r ≡ record c.args.self.now.trail { room = r.room } = ap (λ d. d.trail) c.turn_greeting.ensures.same in
    let point : r.point ≡ c.args.self.now.trail.point = ap (λ (t : Recorded). t.point) same in
    let by = subst (λ (x : CommandState). IsDialledBy c.args.self.now.trail.point.state x c.in-Some.dialled) c.operation.view_is c.in-Some.ensures.dialled in
    let waiting : Waiting = record { id = to_z w32 (of_z w32 c.operation.inside.awaited); limit = c.in_ok-limit.limit } in
    let heard =
    subst (λ (o : Option GreetingResult). IfSome o (HearsGreeting (g.N.Net.history c.turn_greeting.new.self.net) r c.in-Some.dialled.stream waiting c.args.moment)) c.in-Some-2.is (c.in_ok-result.ensures.hears tells) in
    let told : TellsGreeting (g.N.Net.history c.turn_greeting.new.self.net) r c.args.moment c.args.op c.in-Some.dialled.host c.in-Some.dialled.conn c.in-Some-2.result =
    greets-heard (g.N.Net.history c.turn_greeting.new.self.net) r c.args.op c.args.moment c.in_ok-limit.limit since (to_z w32 (of_z w32 c.operation.inside.awaited)) c.args.operation.now c.in-Some.dialled c.in-Some-2.result
    (subst (λ (p : Point). slice_get p.state.commands c.args.op ≡ Some c.args.operation.now) (sym point) c.requires.work.there)
    (subst (λ (p : Point). IsDialledBy p.state c.args.operation.now c.in-Some.dialled) (sym point) by) dialled
    (limit ∙ ap (λ (t : Recorded). since + connect_limit t.client) (sym same)) heard in
    let said : TellsGreeting (g.N.Net.history c.turn_greeting.new.self.net) r c.args.moment c.args.op c.in-Some.dialled.host c.in-Some.dialled.conn (greeting.Refused c.in-Refused.code c.in-Refused.time) =
    subst (TellsGreeting (g.N.Net.history c.turn_greeting.new.self.net) r c.args.moment c.args.op c.in-Some.dialled.host c.in-Some.dialled.conn) c.in-Refused.is told in
    said.1

pub fail_dialled-requires-in-Lost-clause-heard : goal.fail_dialled-requires-in-Lost-clause-heard
fail_dialled-requires-in-Lost-clause-heard g c = λ tells.
    let since = c.in_ok-since.since in
    let limits =
    subst (λ o. IfSome o (λ limit. (client : Client) → client.settings ≡ c.settings.result.now → limit ≡ since + connect_limit client)) c.in_ok-limit.ensures.ok_part
    c.greeting_limit.ensures.limit in
    let dialled = sym (ap (λ (x : CommandState). x.dialled) c.operation.view_is) ∙ sym c.dialled.ensures.dialled ∙ c.in_ok-since.ensures.ok_part in
    let limit = limits c.args.self.now.trail.client (rw (← c.self.view_is) (sym c.settings.ensures.value)) in
    let r : Recorded = c.turn_greeting.new.self.trail in
    let same : r ≡ record c.args.self.now.trail { room = r.room } = ap (λ d. d.trail) c.turn_greeting.ensures.same in
    let point : r.point ≡ c.args.self.now.trail.point = ap (λ (t : Recorded). t.point) same in
    let by = subst (λ (x : CommandState). IsDialledBy c.args.self.now.trail.point.state x c.in-Some.dialled) c.operation.view_is c.in-Some.ensures.dialled in
    let waiting : Waiting = record { id = to_z w32 (of_z w32 c.operation.inside.awaited); limit = c.in_ok-limit.limit } in
    let heard =
    subst (λ (o : Option GreetingResult). IfSome o (HearsGreeting (g.N.Net.history c.turn_greeting.new.self.net) r c.in-Some.dialled.stream waiting c.args.moment)) c.in-Some-2.is (c.in_ok-result.ensures.hears tells) in
    let told : TellsGreeting (g.N.Net.history c.turn_greeting.new.self.net) r c.args.moment c.args.op c.in-Some.dialled.host c.in-Some.dialled.conn c.in-Some-2.result =
    greets-heard (g.N.Net.history c.turn_greeting.new.self.net) r c.args.op c.args.moment c.in_ok-limit.limit since (to_z w32 (of_z w32 c.operation.inside.awaited)) c.args.operation.now c.in-Some.dialled c.in-Some-2.result
    (subst (λ (p : Point). slice_get p.state.commands c.args.op ≡ Some c.args.operation.now) (sym point) c.requires.work.there)
    (subst (λ (p : Point). IsDialledBy p.state c.args.operation.now c.in-Some.dialled) (sym point) by) dialled
    (limit ∙ ap (λ (t : Recorded). since + connect_limit t.client) (sym same)) heard in
    let said : TellsGreeting (g.N.Net.history c.turn_greeting.new.self.net) r c.args.moment c.args.op c.in-Some.dialled.host c.in-Some.dialled.conn (greeting.Lost c.in-Lost.bad) =
    subst (TellsGreeting (g.N.Net.history c.turn_greeting.new.self.net) r c.args.moment c.args.op c.in-Some.dialled.host c.in-Some.dialled.conn) c.in-Lost.is told in
    said

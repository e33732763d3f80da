use Rattle.std.proofs.Common.{◌≡◌, Some, get_or, length, refl, sym, ap, ◌∙◌, subst}
use Rattle.std.proofs.lemmas.Bool.{ltb-true}
use Rattle.std.proofs.lemmas.Option.{slice_get_read}
use Rattle.std.specs.Prelude.{slice_get}
use Rattle.std.specs.Option.{IfSome, is_some, option_copied, option_map}
use Rattle.request_build.specs.Inputs.{Answers, AreInputs}
use Rattle.request_build.specs.declared.sending.SendAt.{SendAt}
use Rattle.request_build.specs.declared.sending.Sending.{Sending}
use Rattle.desk_trail.specs.Requests.{IsGreatest, lsid_of}
use Rattle.desk_trail.specs.States.{ClientState}
use Rattle.legal_trail.specs.Recorded.{Recorded}
use Rattle.desk_core.specs.Sending.{IsToSend}
use Rattle.desk_core.proofs.SendingLemmas.{IfOk-by, IsGreatest-kept, IsToSend-by}
use Rattle.desk_core.proofs.state.Core.request_of.Goals as goal

pub returns : goal.returns
returns g c =
    let r : Recorded = c.self.inside.wired.trail in
    let runs = rw (← c.self.view_is) at c.requires.runs in
    let there = rw (← c.self.view_is) at c.requires.there in
    let lent = rw (← c.self.view_is) at c.requires.lent in
    let on = rw (← c.self.view_is) at c.requires.on in
    let ids = rw (← c.self.view_is) at c.requires.ids in
    let l = c.self.invariant.leads runs in
    let asks = c.is_to_ask.ensures.yes c.if-not-is_to_ask.false in
    let i : Sending = record {
      settings = c.settings.result;
      command = c.in_ok-command.command;
      running = c.args.running;
      lsid = c.id_at.result;
      time = c.greatest-time.result;
    } in
    let at : SendAt = record { op = c.args.at.op; stream = c.args.stream; place = length c.requests-place.result.now } in
    let found : c.get.result ≡ Some c.in_ok-command.command = c.in_ok-command.ensures.ok_part in
    let within = ltb-true c.args.at.op (length c.commands.result.now) (sym c.get.ensures.lookup.0 ∙ ap is_some found) in
    let read : c.in_ok-command.command.now ≡ get_or c.commands.result.now c.args.at.op c.in_ok-command.command.now =
    subst (λ o. IfSome o (λ x. x.now ≡ get_or c.commands.result.now c.args.at.op x.now)) found c.get.ensures.lookup.1 in
    let given : slice_get r.client.commands c.args.at.op ≡ Some c.in_ok-command.command.now =
    ap (λ cs. slice_get cs c.args.at.op) (sym c.commands.ensures.value)
    ∙ slice_get_read c.commands.result.now (length c.commands.result.now) c.args.at.op c.in_ok-command.command.now refl within read in
    let inputs : AreInputs r.client r.point.state r.point.time c.args.at.op i c.args.stream = record {
      settings = sym c.settings.ensures.value;
      given = given;
      there = there;
      unasked = asks.unasked;
      session =
          c.id_at.ensures.id r.point.state.sessions (c.sessions.ensures.value ∙ ids) ∙ ap (lsid_of r.point.state.sessions) c.session.ensures.session;
      greatest =
          subst (λ t. IsGreatest t (option_copied c.greatest-time.result)) (sym l.greatest)
          (subst (λ t. IsGreatest (option_map (λ x. x.stamp) c.self.inside.gossip) t) (sym c.greatest-time.ensures.kept) (IsGreatest-kept c.self.inside.gossip));
      host = c.args.at.lent.host;
      ticket = lent.held.ticket;
      conn = c.args.at.lent.conn;
      lent = lent.has;
      server = on.server;
      at = on.there;
      stream_there = on.stream_there;
    } in
    let place : at.place ≡ length r.lists.requests = ap (λ xs. length xs) c.requests-place.ensures.value in
    let counted : r.point.state.requests ≡ length r.lists.requests = ap (λ (w : ClientState). w.requests) l.state in
    record {
      made =
          rw (← c.self.view_is)
          (IfOk-by c.command_request.result (Answers i at) (IsToSend r c.args.at.op c.args.stream) (λ a h. IsToSend-by r i at a inputs place counted h) c.command_request.ensures.answers);
    }

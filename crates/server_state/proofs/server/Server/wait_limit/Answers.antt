use Rattle.server_state.proofs.server.Server.wait_limit.Goals as goal

pub returns-clause-none : goal.returns-clause-none
returns-clause-none c = rw (← c.self.view_is) c.wait_limit.ensures.none

use Rattle.desk_trail.specs.Clients.{Client}
use Rattle.desk_trail.specs.Written.{an_entry}
use Rattle.legal_trail.proofs.AppendLemmas.{Adds-written, IsLegal-written, Longer-same}
use Rattle.legal_trail.proofs.trail.LegalTrail.append.Goals as goal

pub invariant_of-self : goal.invariant_of-self
invariant_of-self c =
    let client : Client = record { settings = c.self.inside.settings; commands = c.self.inside.commands; began = c.self.inside.began } in
    let old = c.self.inside.writer in
    let stands = rw (← c.self.view_is) at c.requires.stands in
    IsLegal-written client old c.append.new.self old.lists c.args.moment c.args.entry stands.0 (Longer-same client old.lists old.steps c.self.invariant)
    c.append.ensures.lists c.append.ensures.steps stands.1 stands.2

pub returns : goal.returns
returns c =
    let client : Client = record { settings = c.self.inside.settings; commands = c.self.inside.commands; began = c.self.inside.began } in
    let old = c.self.inside.writer in
    rw (← c.self.view_is)
    (record {
      adds = λ told h.
          Adds-written client an_entry old c.append.new.self old.lists c.args.moment c.args.entry told (Longer-same client old.lists old.steps c.self.invariant)
          c.append.ensures.lists c.append.ensures.steps c.append.ensures.room h;
    })

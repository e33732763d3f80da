use Rattle.desk_core.proofs.desk.Desk.next_due.Goals as goal

pub returns : goal.returns
returns g c = record { next = rw (← c.self.view_is) c.next_due.ensures }

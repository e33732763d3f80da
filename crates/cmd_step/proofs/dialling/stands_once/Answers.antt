use Rattle.std.proofs.Common.{◌≤◌, sym, ap, ◌∙◌, subst}
use Rattle.std.specs.Prelude.{slice_get}
use Rattle.entry_judge.specs.Groups.{Place}
use Rattle.pool_book.specs.Entries.{PoolEntry}
use Rattle.pool_book.specs.Pool.{Pool}
use Rattle.pool_book.specs.Sound.{times_of}
use Rattle.desk_trail.specs.Clients.{pool_rules}
use Rattle.desk_trail.specs.Facts.{facts_of}
use Rattle.desk_trail.specs.Legal.{Point}
use Rattle.desk_trail.specs.Parts.{pool_part}
use Rattle.cmd_step.proofs.dialling.stands_once.Goals as goal

pub returns : goal.returns
returns g c = record {
  once = λ host s there conn.
      let r = c.args.wired.now.trail in
      let ts = facts_of r.lists r.steps in
      let legal = c.steps.ensures.legal.legal in
      let place = c.each_pool_has_its_trail.ensures.place r.client ts host s legal (ap (λ (p : Point). slice_get p.state.servers host) (sym c.steps.ensures.point) ∙ there) in
      subst (λ (p : Place Pool PoolEntry). times_of p.state conn ≤ 1) (sym place)
      (c.each_connection_stands_once.ensures (pool_rules r.client) (pool_part r.client host ts) (c.each_pool_has_its_trail.ensures.trail r.client ts host legal) conn);
}

use Rattle.std.proofs.Common.{◌≡◌, None, true, sym, ap, ◌∙◌, subst, arith}
use Rattle.desk_trail.specs.declared.entry.Entry.TheVariants as entry_of
use Rattle.desk_trail.specs.Facts.{Lists}
use Rattle.desk_trail.specs.Facts as fact
use Rattle.desk_trail.specs.Legal.{Exceeds, Point}
use Rattle.desk_trail.specs.States.{ClientState}
use Rattle.desk_trail.specs.Written.{an_entry}
use Rattle.desk_core.specs.Hearing.{HasComeWith}
use Rattle.desk_core.proofs.AppendsLemmas.{Appends-adds, AreLonger-refl, kept-by_time}
use Rattle.desk_core.proofs.CheckLemmas.{Exceeds-kept, IsKept-told, StandsAt-told, exceeds}
use Rattle.desk_core.proofs.state.Core.hear_time.Goals as goal

pub tell_time-requires-clause-stands : goal.tell_time-requires-clause-stands
tell_time-requires-clause-stands g c =
    let w = rw (← c.self.view_is) at c.requires.writing in
    let h = c.self.invariant.leads w.1.runs in
    let reply = rw (← c.self.view_is) at c.requires.reply in
    let is = c.in-Some.is in
    let news : exceeds c.in-Some.time.stamp c.self.inside.gossip ≡ true = sym c.exceeds.ensures ∙ c.if-not-exceeds.false in
    StandsAt-told c.self.inside.wired.trail.client c.self.inside.wired.trail.point c.args.moment c.in-Some.time.stamp w.1.at (ap (λ (s : ClientState). s.is_ending) h.state)
    (reply (λ (e : c.args.time ≡ None). absurd (cc)))
    (subst (λ o. Exceeds c.in-Some.time.stamp o) (sym h.greatest) (Exceeds-kept c.self.inside.gossip c.in-Some.time.stamp news))

pub invariant_of-self : goal.invariant_of-self
invariant_of-self g c =
    let w = rw (← c.self.view_is) at c.requires.writing in
    let news : exceeds c.in-Some.time.stamp c.self.inside.gossip ≡ true = sym c.exceeds.ensures ∙ c.if-not-exceeds.false in
    let adds = c.tell_time.ensures.adds in
    let space = w.1.space in
    let used = adds.room_used.steps in
    IsKept-told c.self.inside.wired.trail c.tell_time.new.self.trail c.self.inside.wired.lines c.tell_time.new.self.lines c.self.inside.topology.topology c.self.inside.servers.items
    c.self.inside.gossip c.advance.new.self c.in-Some.time c.self.inside.closings c.self.inside.last c.args.moment c.self.inside.stopped (entry_of.Time c.in-Some.time.stamp) adds news
    c.advance.ensures.greater (ap (λ s. s.lines) c.tell_time.ensures.same) w.1.now (omega arith) c.self.invariant

pub returns-clause-writing : goal.returns-clause-writing
returns-clause-writing g c = λ debts h.
    let w = rw (← c.self.view_is) at h in
    let adds = c.tell_time.ensures.adds in
    let space = w.space in
    let used = adds.room_used.steps in
    record {
      runs = w.runs;
      owes = ap (λ (p : Point). p.owed) adds.point_now ∙ w.owes;
      at = ap (λ (p : Point). p.moment) adds.point_now;
      now = w.now;
      space = omega arith;
    }

pub returns-clause-servers : goal.returns-clause-servers
returns-clause-servers g c = rw (← c.self.view_is) (ap (λ (p : Point). p.state) c.tell_time.ensures.adds.point_now)

pub returns-clause-names : goal.returns-clause-names
returns-clause-names g c = rw (← c.self.view_is) (ap (λ (l : Lists). l.names) c.tell_time.ensures.adds.lists_now)

pub returns-clause-appends : goal.returns-clause-appends
returns-clause-appends g c =
    rw (← c.self.view_is)
    (Appends-adds an_entry c.self.inside.wired.trail.lists c.args.moment (entry_of.Time c.in-Some.time.stamp) (fact.Time c.in-Some.time.stamp) c.self.inside.wired.trail
    c.tell_time.new.self.trail (AreLonger-refl c.self.inside.wired.trail.lists) c.tell_time.ensures.adds (λ e. absurd (cc)) (kept-by_time c.self.inside.wired.trail.client c.args.moment c.self.inside.wired.trail.point.state c.in-Some.time.stamp))

pub tell_time-requires-clause-came : goal.tell_time-requires-clause-came
tell_time-requires-clause-came g c = λ t.
    let came = rw (← c.self.view_is) at c.requires.came in
    subst (HasComeWith (g.N.Net.history c.self.inside.wired.net)) c.in-Some.is (came t)

pub returns-clause-told : goal.returns-clause-told
returns-clause-told g c = λ s. rw (← c.self.view_is) (c.tell_time.ensures.silent s)

use Rattle.std.proofs.Common.{◌≡◌, refl, sym, ap, ◌∙◌}
use Rattle.std.specs.List.{list_any}
use Rattle.host_name.specs.Addresses.{is_same_address}
use Rattle.end_sessions.proofs.CarrierLemmas.{Carries-none}
use Rattle.end_sessions.proofs.asking.ask_at.Goals.{then-has_left-via-then-has_left, then-has_left-via-else-has_left+then-not-is_among}
use Rattle.end_sessions.proofs.asking.ask_at.Goals as goal

pub returns-then-has_left-clause-carries : goal.returns-then-has_left-clause-carries
returns-then-has_left-clause-carries g c =
    Carries-none c.args.asking.moment c.args.asking.closings c.args.asking.lists.now c.args.wired.now c.args.wired.now c.args.carriers.now.items c.requires.ready refl c.requires.ready.room

-- farewells may not go to it
pub returns-then-has_left-clause-asked : goal.returns-then-has_left-clause-asked
returns-then-has_left-clause-asked g c = λ place stream free at there is.
    let left = c.has_left.ensures.left in
    let stays = at.stays in
    elim c.then-has_left.branch [
      | then-has_left-via-then-has_left w ↦ let yes = w.if-has_left.true in absurd (cc)
      | then-has_left-via-else-has_left+then-not-is_among w ↦
          let no = w.if-not-is_among.true in
          let among = w.is_among.ensures ∙ ap (λ a. list_any (λ h. is_same_address h a) c.args.asking.hosts.now) w.host.ensures.address in
          let yes = c.requires.hosts.all c.args.server.now.address at.readable in absurd (cc)
    ]

pub ask_each-requires-clause-at : goal.ask_each-requires-clause-at
ask_each-requires-clause-at g c = record {
  host = c.requires.there.0;
  at = c.requires.there.1;
  stays = sym c.has_left.ensures.left ∙ c.if-has_left.false;
  readable = c.requires.hosts.of c.args.server.now.address
      (ap (λ a. list_any (λ h. is_same_address h a) c.args.asking.hosts.now) (sym c.host.ensures.address) ∙ sym c.is_among.ensures ∙ c.if-not-is_among.false);
}

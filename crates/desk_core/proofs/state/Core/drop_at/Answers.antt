use Rattle.std.proofs.Common.{◌≡◌, ◌+◌, ◌++◌, ◌∷◌, Some, map, option_to_list, refl, sym, ap, ◌∙◌}
use Rattle.host_name.specs.Addresses.{Address, is_same_address}
use Rattle.desk_trail.specs.Owed as owed
use Rattle.desk_trail.specs.States.{number_of}
use Rattle.desk_core.proofs.HostsLemmas.{IsWriting-as}
use Rattle.desk_core.proofs.ServerLemmas.{number_of-found}
use Rattle.desk_core.proofs.state.Core.drop_at.Goals as goal

pub drop_server-requires-clause-stays : goal.drop_server-requires-clause-stays
drop_server-requires-clause-stays g c =
    let is : number_of c.args.self.now.trail.point.state c.args.host.now ≡ Some c.in-Some.number = sym c.number_of.ensures ∙ c.in-Some.is in
    let at = number_of-found c.args.self.now.trail.point.state c.args.host.now c.in-Some.number is in
    record { server = at.server; there = at.there; stays = at.stays }

pub returns-in-Some-clause-writing : goal.returns-in-Some-clause-writing
returns-in-Some-clause-writing g c = λ rest n w.
    let is : number_of c.args.self.now.trail.point.state c.args.host.now ≡ Some c.in-Some.number = sym c.number_of.ensures ∙ c.in-Some.is in
    c.drop_server.ensures.writing rest n
    (IsWriting-as c.args.self.now c.args.moment (n + 1) (n + 1)
    (map (λ x. owed.Dropped x) (option_to_list (number_of c.args.self.now.trail.point.state c.args.host.now)) ++ rest) (owed.Dropped c.in-Some.number ∷ rest) refl
    (ap (λ o. map (λ x. owed.Dropped x) (option_to_list o) ++ rest) is) w)

pub returns-in-Some-clause-others : goal.returns-in-Some-clause-others
returns-in-Some-clause-others g c = λ a differ.
    let is : number_of c.args.self.now.trail.point.state c.args.host.now ≡ Some c.in-Some.number = sym c.number_of.ensures ∙ c.in-Some.is in
    let at = number_of-found c.args.self.now.trail.point.state c.args.host.now c.in-Some.number is in
    c.drop_server.ensures.others at.server at.there a (ap (λ (h : Address). is_same_address h a) at.at ∙ differ)

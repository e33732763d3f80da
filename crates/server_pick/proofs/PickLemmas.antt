-- What is told of the kept candidates is what the definition tells of their hosts.
use Rattle.std.proofs.Common.{◌≡◌, ℕ, List, Option, None, Some, refl, sym, ap, subst, ◌∙◌, option_map}
use Rattle.std.proofs.lemmas.List.Elements.{All-weaker}
use denote.Ref.{Bor}
use Rattle.std.specs.List.{All}
use Rattle.std.specs.Option.{IfSome, option_copied}
use Rattle.host_name.specs.Addresses.{Address}
use Rattle.hello_reply.specs.declared.server_description.ServerDescription.{ServerDescription}
use Rattle.topo_rules.specs.Maps.{ServerMap}
use Rattle.topo_rules.specs.Readings.{misfit_of}
use Rattle.server_pick.specs.Concluded.{outcome}
use Rattle.server_pick.specs.Picks.{mean_of, chosen_of, told, picks}
use Rattle.server_pick.specs.Prepared.{HasRoomAt, IsTrueTo, incompatible}
use Rattle.server_pick.specs.Windows.{window, least_of, choice}
use Rattle.server_pick.specs.declared.candidate.Candidate.{Candidate}
use Rattle.server_pick.proofs.AskLemmas.{hosts_of}
use Rattle.server_pick.proofs.ChoiceLemmas.{window_map, choice_map, all_within, all_choice}

pub chosen_kept : (m : ServerMap) (threshold : ℕ) (load : Address → ℕ) (w1 w2 : ℕ) (ks : List Candidate) → All (IsTrueTo m load) ks
    → chosen_of m threshold (hosts_of ks) load w1 w2 ≡ option_map (λ (c : Candidate). c.host) (choice (λ (c : Candidate). c.in_flight) w1 w2 (window (λ (c : Candidate). c.mean) threshold ks))
chosen_kept m threshold load w1 w2 ks h =
    let means : All (λ (c : Candidate). mean_of m c.host ≡ c.mean) ks = All-weaker (IsTrueTo m load) (λ (c : Candidate). mean_of m c.host ≡ c.mean) (λ c t. t.mean) ks h in
    let loads : All (λ (c : Candidate). load c.host ≡ c.in_flight) ks = All-weaker (IsTrueTo m load) (λ (c : Candidate). load c.host ≡ c.in_flight) (λ c t. t.in_flight) ks h in
    ap (choice load w1 w2) (window_map (λ (c : Candidate). c.host) (mean_of m) (λ (c : Candidate). c.mean) threshold ks means)
    ∙ choice_map (λ (c : Candidate). c.host) load (λ (c : Candidate). c.in_flight) w1 w2 (window (λ (c : Candidate). c.mean) threshold ks)
    (all_within (λ (c : Candidate). load c.host ≡ c.in_flight) (λ (c : Candidate). c.mean) (least_of (λ (c : Candidate). c.mean) ks) threshold ks loads)

told_chosen : (o : Option ServerDescription) (c : Option Candidate) → told o (option_map (λ (c : Candidate). c.host) c) ≡ outcome (option_map incompatible o) c
told_chosen (Some d) c = refl
told_chosen None None = refl
told_chosen None (Some c) = refl

pub picks_kept : (m : ServerMap) (threshold : ℕ) (load : Address → ℕ) (w1 w2 : ℕ) (ks : List Candidate) → All (IsTrueTo m load) ks
    → picks m threshold (hosts_of ks) load w1 w2 ≡ outcome (option_map incompatible (misfit_of m)) (choice (λ (c : Candidate). c.in_flight) w1 w2 (window (λ (c : Candidate). c.mean) threshold ks))
picks_kept m threshold load w1 w2 ks h = ap (told (misfit_of m)) (chosen_kept m threshold load w1 w2 ks h) ∙ told_chosen (misfit_of m) _

some_copied : (most : ℕ) (o : Option (Bor Candidate)) → IfSome (option_copied o) (HasRoomAt most) → IfSome o (λ c. HasRoomAt most c.now)
some_copied most None h = tt
some_copied most (Some c) h = h

-- there is room for the name of the one that is chosen, as for all that were kept
pub chosen_has_room : (most threshold w1 w2 : ℕ) (items ks : List Candidate) (o : Option (Bor Candidate)) → items ≡ ks → All (HasRoomAt most) ks
    → option_copied o ≡ choice (λ (c : Candidate). c.in_flight) w1 w2 (window (λ (c : Candidate). c.mean) threshold items) → IfSome o (λ c. HasRoomAt most c.now)
chosen_has_room most threshold w1 w2 items ks o same h e =
    let all : All (HasRoomAt most) items = subst (All (HasRoomAt most)) (sym same) h in
    some_copied most o (subst (λ p. IfSome p (HasRoomAt most)) (sym e)
    (all_choice (HasRoomAt most) (λ (c : Candidate). c.in_flight) w1 w2 (window (λ (c : Candidate). c.mean) threshold items)
    (all_within (HasRoomAt most) (λ (c : Candidate). c.mean) (least_of (λ (c : Candidate). c.mean) items) threshold items all)))

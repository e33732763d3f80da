-- A command that is finished stays so.
use Rattle.std.proofs.Common.{◌≡◌, inl, inr, ℕ, true, List, [], ◌∷◌, ◌++◌, Option, None, Some, refl, sym, ap, ◌∙◌, subst}
use Rattle.std.specs.Prelude.{slice_get, slice_set}
use Rattle.std.proofs.lemmas.Bool.Decides.{eqb_tells}
use Rattle.entry_judge.specs.Judge.{state_after}
use Rattle.entry_judge.specs.LegalLaws.{state_after-append}
use Rattle.entry_judge.specs.declared.timed.Timed.{Timed}
use Rattle.desk_trail.specs.declared.entry.LookedHow.{LookedHow}
use Rattle.desk_trail.specs.declared.entry.LookedHow.TheVariants as looked
use Rattle.desk_trail.specs.declared.request.Purpose.{Purpose}
use Rattle.desk_trail.specs.declared.request.Purpose.TheVariants as purpose
use Rattle.desk_trail.specs.Attempts.{OfCommand, command_step, commands_after, with_event}
use Rattle.desk_trail.specs.Clients.{Client}
use Rattle.desk_trail.specs.Facts.{Fact}
use Rattle.desk_trail.specs.Facts as fact
use Rattle.desk_trail.specs.Legal.{Point, beginning, changed_by, point_after, point_behind}
use Rattle.desk_trail.specs.Looks.{look_by}
use Rattle.desk_trail.specs.States.{ClientState, CommandState, changed, changed_at}
use Rattle.trail_laws.specs.Answers.{IsFinishedAt}
use Rattle.trail_laws.proofs.CommandLemmas.{Change, Of, Still, asked_change, change_of, changes, run, with_change}
use Rattle.trail_laws.proofs.ListLemmas.{slice_get-set_other, slice_get-set_same}

abbrev IsDone : ℕ → List CommandState → Type 0
IsDone op cs = (c : CommandState) → slice_get cs op ≡ Some c → c.is_finished ≡ true

-- A change leaves a command that is finished so.
abbrev Leaves : (CommandState → CommandState) → Type 0
Leaves g = (c : CommandState) → c.is_finished ≡ true → (g c).is_finished ≡ true

done-changed : (op : ℕ) (cs : List CommandState) (k : ℕ) (g : CommandState → CommandState) → Leaves g → IsDone op cs → IsDone op (changed cs k g)
done-changed op cs k g leaves h = by (slice_get cs k) refl
  where
    by : (o : Option CommandState) → slice_get cs k ≡ o → IsDone op (changed_at cs k o g)
    by None e = h
    by (Some c) e = λ d there. elim (eqb_tells k op) [
      | inl w ↦
          let here : Some (g c) ≡ Some d = sym (slice_get-set_same cs k (g c) c e) ∙ ap (slice_get (slice_set cs k (g c))) w.1 ∙ there in
          let same : g c ≡ d = (cc) in
          subst (λ (x : CommandState). x.is_finished ≡ true) same (leaves c (h c (sym (ap (slice_get cs) w.1) ∙ e)))
      | inr w ↦ h d (sym (slice_get-set_other cs k op (g c) w.1) ∙ there)
    ]

done-with : (op : ℕ) (d : Change) (cs : List CommandState) → Leaves (run d) → IsDone op cs → IsDone op (with_change d cs)
done-with op Still cs leaves h = h
done-with op (Of k g) cs leaves h = done-changed op cs k g leaves h

look-leaves : (w : ClientState) (moment : ℕ) (picked : LookedHow) → Leaves (look_by w moment picked)
look-leaves w moment looked.NoneFits c h = h
look-leaves w moment (looked.Chosen host) c h = h
look-leaves w moment looked.Failed c h = h
look-leaves w moment (looked.Incompatible host) c h = h

run-leaves : (moment : ℕ) (w : ClientState) (f : Fact) → Leaves (run (change_of moment w f))
run-leaves moment w (fact.Looked k a b ks picked) c h = look-leaves w moment picked c h
run-leaves moment w (fact.Asked place r) c h = by r.purpose
  where
    by : (p : Purpose) → (run (asked_change moment p) c).is_finished ≡ true
    by (purpose.Command k) = h
    by (purpose.Check host) = h
    by (purpose.Greeting host conn) = h
    by purpose.Farewell = h
run-leaves moment w (fact.Finished k outcome) c h = refl
run-leaves moment w f c h = h

done-event : (op : ℕ) (o : Option OfCommand) (v : ClientState) → IsDone op v.commands → IsDone op (commands_after o v).commands
done-event op None v h = h
done-event op (Some e) v h = done-changed op v.commands e.0 (with_event e.1) (λ c k. k) h

done-step : (client : Client) (op : ℕ) (p : Point) (t : Timed Fact) → IsDone op p.state.commands → IsDone op (point_after client p t).state.commands
done-step client op p t h =
    let v = changed_by client t.at p.state t.what in
    let moved : IsDone op (with_change (change_of t.at p.state t.what) p.state.commands) =
    done-with op (change_of t.at p.state t.what) p.state.commands (run-leaves t.at p.state t.what) h in
    done-event op (command_step client p.state t.what) v (subst (IsDone op) (sym (changes client t.at p.state t.what)) moved)

done-from : (client : Client) (op : ℕ) (p : Point) (ts : List (Timed Fact)) → IsDone op p.state.commands → IsDone op (state_after (point_after client) p ts).state.commands
done-from client op p [] h = h
done-from client op p (t ∷ ts) h = done-from client op (point_after client p t) ts (done-step client op p t h)

pub stays-done : (client : Client) (ts more : List (Timed Fact)) (op : ℕ) → IsFinishedAt (point_behind client ts).state op →
    IsFinishedAt (point_behind client (ts ++ more)).state op
stays-done client ts more op h =
    subst (λ (p : Point). IsDone op p.state.commands) (sym (state_after-append (point_after client) (beginning client) ts more)) (done-from client op (point_behind client ts) more h)

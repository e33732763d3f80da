-- A command that is answered nowhere is not finished.
use Rattle.std.proofs.Common.{◌≡◌, inl, inr, ℕ, ◌+◌, ◌==◌, Bool, true, false, List, [], ◌∷◌, Option, None, Some, refl, sym, ap, ◌∙◌, subst, All, zero, suc, eq-eqb, ◌<◌, length, arith}
use Rattle.std.specs.Prelude.{slice_get, slice_set, map}
use Rattle.std.proofs.lemmas.Bool.Decides.{eqb_tells}
use Rattle.cmd_build.specs.declared.command.Command.{Command}
use Rattle.entry_judge.specs.Judge.{state_after}
use Rattle.entry_judge.specs.declared.timed.Timed.{Timed}
use Rattle.desk_trail.specs.declared.entry.LookedHow.{LookedHow}
use Rattle.desk_trail.specs.declared.entry.LookedHow.TheVariants as looked
use Rattle.desk_trail.specs.declared.request.Purpose.{Purpose}
use Rattle.desk_trail.specs.declared.request.Purpose.TheVariants as purpose
use Rattle.desk_trail.specs.Attempts.{AtCommand, OfCommand, command_step, commands_after, with_event}
use Rattle.desk_trail.specs.Clients.{Client}
use Rattle.desk_trail.specs.Facts.{Fact}
use Rattle.desk_trail.specs.Facts as fact
use Rattle.desk_trail.specs.Legal.{Point, beginning, changed_by, point_after, point_behind}
use Rattle.desk_trail.specs.Looks.{look_by}
use Rattle.desk_trail.specs.States.{ClientState, CommandState, changed, changed_at, fresh_command}
use Rattle.trail_laws.specs.Answers.{IsUnanswered, answers}
use Rattle.trail_laws.proofs.CommandLemmas.{Change, Of, Still, asked_change, change_of, changes, place_of, run, with_change}
use Rattle.trail_laws.proofs.ListLemmas.{slice_get-set_other, slice_get-set_same}

abbrev Open : ℕ → List CommandState → Type 0
Open op cs = (c : CommandState) × (slice_get cs op ≡ Some c) × (c.is_finished ≡ false)

open-changed : (op : ℕ) (cs : List CommandState) (k : ℕ) (g : CommandState → CommandState) →
    ((c : CommandState) → k ≡ op → c.is_finished ≡ false → (g c).is_finished ≡ false) → Open op cs → Open op (changed cs k g)
open-changed op cs k g keeps h = by (slice_get cs k) refl
  where
    by : (o : Option CommandState) → slice_get cs k ≡ o → Open op (changed_at cs k o g)
    by None e = h
    by (Some c) e = elim (eqb_tells k op) [
      | inl w ↦
          let there : Some c ≡ Some h.0 = sym e ∙ ap (slice_get cs) w.1 ∙ h.1 in
          let same : h.0 ≡ c = (cc) in
          let here : slice_get (slice_set cs k (g c)) op ≡ Some (g c) = ap (slice_get (slice_set cs k (g c))) (sym w.1) ∙ slice_get-set_same cs k (g c) c e in
          (g c, here, keeps c w.1 (subst (λ (d : CommandState). d.is_finished ≡ false) same h.2))
      | inr w ↦ (h.0, slice_get-set_other cs k op (g c) w.1 ∙ h.1, h.2)
    ]

open-with : (op : ℕ) (d : Change) (cs : List CommandState) → ((c : CommandState) → place_of d ≡ op → c.is_finished ≡ false → (run d c).is_finished ≡ false) →
    Open op cs → Open op (with_change d cs)
open-with op Still cs keeps h = h
open-with op (Of k g) cs keeps h = open-changed op cs k g keeps h

look-open : (w : ClientState) (moment : ℕ) (picked : LookedHow) (c : CommandState) → c.is_finished ≡ false → (look_by w moment picked c).is_finished ≡ false
look-open w moment looked.NoneFits c h = h
look-open w moment (looked.Chosen host) c h = h
look-open w moment looked.Failed c h = h
look-open w moment (looked.Incompatible host) c h = h

run-open : (op moment : ℕ) (w : ClientState) (f : Fact) → answers op f ≡ false → (c : CommandState) → place_of (change_of moment w f) ≡ op →
    c.is_finished ≡ false → (run (change_of moment w f) c).is_finished ≡ false
run-open op moment w (fact.Looked k a b ks picked) n c at h = look-open w moment picked c h
run-open op moment w (fact.Asked place r) n c at h = by r.purpose
  where
    by : (p : Purpose) → (run (asked_change moment p) c).is_finished ≡ false
    by (purpose.Command k) = h
    by (purpose.Check host) = h
    by (purpose.Greeting host conn) = h
    by purpose.Farewell = h
run-open op moment w (fact.Finished k outcome) n c at h = let is : (k == op) ≡ true = eq-eqb k op at in absurd (let never : ⊥ = cc in never)
run-open op moment w f n c at h = h

open-event : (op : ℕ) (o : Option OfCommand) (v : ClientState) → Open op v.commands → Open op (commands_after o v).commands
open-event op None v h = h
open-event op (Some e) v h = open-changed op v.commands e.0 (with_event e.1) (λ c at k. k) h

open-step : (client : Client) (op : ℕ) (p : Point) (t : Timed Fact) → answers op t.what ≡ false → Open op p.state.commands → Open op (point_after client p t).state.commands
open-step client op p t n h =
    let v = changed_by client t.at p.state t.what in
    let moved : Open op (with_change (change_of t.at p.state t.what) p.state.commands) =
    open-with op (change_of t.at p.state t.what) p.state.commands (run-open op t.at p.state t.what n) h in
    open-event op (command_step client p.state t.what) v (subst (Open op) (sym (changes client t.at p.state t.what)) moved)

open-from : (client : Client) (op : ℕ) (p : Point) (ts : List (Timed Fact)) → IsUnanswered op ts → Open op p.state.commands →
    Open op (state_after (point_after client) p ts).state.commands
open-from client op p [] n h = h
open-from client op p (t ∷ ts) n h =
    let first : answers op t.what ≡ false = n zero t (let some : zero < length (t ∷ ts) = omega arith in some) in
    let rest : IsUnanswered op ts = λ k d l. n (suc k) d (let more : suc k < length (t ∷ ts) = omega (arith, l) in more) in
    open-from client op (point_after client p t) ts rest (open-step client op p t first h)

fresh-open : (cs : List Command) (op : ℕ) (command : Command) → slice_get cs op ≡ Some command → Open op (map fresh_command cs)
fresh-open [] op command h = absurd (let never : ⊥ = cc in never)
fresh-open (x ∷ xs) zero command h = (fresh_command x, refl, refl)
fresh-open (x ∷ xs) (suc op) command h = fresh-open xs op command h

pub goes-on : (client : Client) (ts : List (Timed Fact)) (op : ℕ) (command : Command) → slice_get client.commands op ≡ Some command → IsUnanswered op ts →
    AtCommand (point_behind client ts).state op (λ c. c.is_finished ≡ false)
goes-on client ts op command given n = open-from client op (beginning client) ts n (fresh-open client.commands op command given)

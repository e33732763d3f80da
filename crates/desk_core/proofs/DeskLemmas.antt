-- What a desk keeps between its steps.
use Rattle.std.proofs.Common.{◌≡◌, ◌≤◌, ℕ, zero, suc, Bool, true, false, List, [], ◌∷◌, map, length, Some, refl, sym, ap, ◌∙◌, subst, arith}
use Rattle.std.specs.Prelude.{All, slice_get, slice_set}
use Rattle.std.proofs.lemmas.List.{length-map}
use Rattle.std.proofs.lemmas.Option.{get_or_from_slice_get, slice_get_within}
use Rattle.cmd_build.specs.Sizes.{IsWithin}
use Rattle.cmd_build.specs.declared.command.Command.{Command}
use Rattle.sess_book.specs.Sessions.{Sessions, no_sessions}
use Rattle.desk_trail.specs.Clients.{Client}
use Rattle.desk_trail.specs.States.{CommandState, fresh_command}
use Rattle.legal_trail.specs.Recorded.{Recorded}
use Rattle.sess_step.specs.Choices.{AreIds}
use Rattle.desk_core.specs.Appends.{AppendsAside}
use Rattle.desk_core.specs.Commands.{HasGone, IsInStep, IsShallow}
use Rattle.desk_core.specs.Counts.{IsCounted}
use Rattle.desk_core.specs.Running.{IsDesk, IsRunning}
use Rattle.desk_core.specs.State.{AreShallow, Core}
use Rattle.desk_core.proofs.CountLemmas.{IsCounted-none}

-- what holds of each holds of one
All-at : {A : Type 0} (P : A → Type 0) (xs : List A) (k : ℕ) (x : A) → All P xs → slice_get xs k ≡ Some x → P x
All-at P xs k x h at = subst P (get_or_from_slice_get xs k x x at) (h k x (slice_get_within xs k x at))

shallow-at : (client : Client) → AreShallow client.commands → (op : ℕ) → IsShallow client op
shallow-at client h op = λ c at. All-at (λ (x : Command). IsWithin 90 x.act) client.commands op c h at

pub length-slice_set : {A : Type 0} (xs : List A) (k : ℕ) (x : A) → length (slice_set xs k x) ≡ length xs
length-slice_set [] k x = refl
length-slice_set (y ∷ ys) zero x = refl
length-slice_set (y ∷ ys) (suc k) x = ap (λ n. suc n) (length-slice_set ys k x)

-- ---- It begins

pub IsDesk-new : (trail : Recorded) (commands : List Command) (items : List CommandState) (counts : List ℕ) (s : Sessions) (last : ℕ) (stopped : Bool) →
    trail.client.commands ≡ commands → length commands ≤ 16777216 → AreShallow commands → trail.point.owed ≡ [] →
    trail.point.state.commands ≡ map fresh_command commands → trail.point.state.sessions ≡ no_sessions → trail.lists.sessions ≡ [] →
    items ≡ map fresh_command commands → counts ≡ [] → s ≡ no_sessions → IsDesk trail items counts s last stopped
IsDesk-new trail commands items counts s last stopped given few shallow paid fresh none ids is nobody empty = record {
  runs = λ r. record {
    paid = paid;
    has = fresh ∙ sym is;
    counted = subst (λ xs. IsCounted xs items) (sym nobody) (subst (IsCounted []) (sym is) (IsCounted-none commands));
    book = none ∙ sym empty;
    ids = subst (AreIds trail.lists.sessions) (sym empty) ids;
    late = subst (λ (b : Sessions). b.last ≤ last) (sym empty) (omega arith);
  };
  levels = shallow-at trail.client (subst AreShallow (sym given) shallow);
  given = ap length is ∙ length-map commands fresh_command ∙ ap length (sym given);
  few = subst (λ n. n ≤ 16777216) (sym (ap length is ∙ length-map commands fresh_command)) few;
}

-- ---- Checks go on beside its commands

pub IsDesk-aside : {R : Type 0} (old new : Recorded) (items : List CommandState) (counts : List ℕ) (s : Sessions) (last now moment : ℕ) (stopped after : Bool) →
    IsDesk old items counts s last stopped → stopped ≡ false → AppendsAside R moment old new → last ≤ now → (after ≡ false → new.point.owed ≡ []) →
    IsDesk new items counts s now after
IsDesk-aside {R} old new items counts s last now moment stopped after d runs a later paid =
    let was = d.runs runs in
    record {
      runs = λ r. record {
        paid = paid r;
        has = a.aside.commands ∙ was.has;
        counted = was.counted;
        book = a.aside.sessions ∙ was.book;
        ids = a.ids ∙ was.ids;
        late = let late = was.late in omega arith;
      };
      levels = subst (λ (client : Client). (op : ℕ) → IsShallow client op) (sym a.appends.appends.client) d.levels;
      given = d.given ∙ ap (λ (client : Client). length client.commands) (sym a.appends.appends.client);
      few = d.few;
    }

-- ---- A command steps

pub IsInStep-of : {N : Type 0} (d : Core N) (items : List CommandState) (counts : List ℕ) (s : Sessions) (last moment op : ℕ) (c : CommandState) →
    IsRunning d.trail items counts s last → d.is_stopped ≡ false → d.last ≡ moment → last ≤ moment → slice_get items op ≡ Some c → IsInStep d moment op c s
IsInStep-of {N} d items counts s last moment op c r runs now later there = record {
  work = record {
    ready = record { runs = runs; paid = r.paid; now = now };
    there = ap (λ cs. slice_get cs op) r.has ∙ there;
  };
  book = r.book;
  ids = r.ids;
  late = let late = r.late in omega arith;
}

pub IsDesk-gone : {N : Type 0} (d e : Core N) (items now : List CommandState) (counts counted : List ℕ) (s t : Sessions) (last moment op : ℕ) (c : CommandState) →
    IsDesk d.trail items counts s last d.is_stopped → d.is_stopped ≡ false → HasGone d e moment op c t → IsCounted counted e.trail.point.state.commands →
    e.trail.client ≡ d.trail.client → now ≡ slice_set items op c → IsDesk e.trail now counted t e.last e.is_stopped
IsDesk-gone {N} d e items now counts counted s t last moment op c k runs gone is_counted client is =
    let was = k.runs runs in
    let ready = gone.step.work.ready in
    let has : e.trail.point.state.commands ≡ now = gone.commands ∙ ap (λ cs. slice_set cs op c) was.has ∙ sym is in
    let count : length now ≡ length items = ap length is ∙ length-slice_set items op c in
    record {
      runs = λ r. record {
        paid = ready.paid;
        has = has;
        counted = subst (IsCounted counted) has is_counted;
        book = gone.step.book;
        ids = gone.step.ids;
        late = subst (λ n. t.last ≤ n) (sym ready.now) gone.step.late;
      };
      levels = subst (λ (x : Client). (n : ℕ) → IsShallow x n) (sym client) k.levels;
      given = count ∙ k.given ∙ ap (λ (x : Client). length x.commands) (sym client);
      few = subst (λ n. n ≤ 16777216) (sym count) k.few;
    }

-- one that stopped has its commands still
pub IsDesk-stopped : (old new : Recorded) (items now : List CommandState) (counts counted : List ℕ) (s t : Sessions) (last after : ℕ) (was stopped : Bool) →
    IsDesk old items counts s last was → new.client ≡ old.client → length now ≡ length items → stopped ≡ true → IsDesk new now counted t after stopped
IsDesk-stopped old new items now counts counted s t last after was stopped k client count stops = record {
  runs = λ r. absurd (cc);
  levels = subst (λ (x : Client). (n : ℕ) → IsShallow x n) (sym client) k.levels;
  given = count ∙ k.given ∙ ap (λ (x : Client). length x.commands) (sym client);
  few = subst (λ n. n ≤ 16777216) (sym count) k.few;
}

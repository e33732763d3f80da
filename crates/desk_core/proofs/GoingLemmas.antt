-- The phases of a command's step, one after another.
use Rattle.std.proofs.Common.{◌≡◌, ◌≤◌, ℕ, zero, suc, Bool, List, [], ◌∷◌, ◌++◌, Some, inl, inr, refl, sym, ap, ◌∙◌, append_assoc, subst, arith}
use Rattle.std.specs.Prelude.{IfOk, OnOk, slice_get, slice_set}
use Rattle.std.specs.declared.result.Result.{Result}
use Rattle.std.specs.declared.result.Result.TheVariants.{Ok, Err}
use Rattle.bson_doc.specs.declared.ids.Lsid.{Lsid}
use Rattle.net_link.specs.Causes.{Rose}
use Rattle.server_pick.specs.declared.candidate.Candidate.{Candidate}
use Rattle.sess_book.specs.Ids.{id_of}
use Rattle.sess_book.specs.Sessions.{Sessions}
use Rattle.desk_trail.specs.declared.entry.Entry.TheVariants as entry
use Rattle.desk_trail.specs.declared.step.Step.{Step}
use Rattle.desk_trail.specs.Clients.{Client}
use Rattle.desk_trail.specs.Facts.{Fact}
use Rattle.desk_trail.specs.States.{ClientState, CommandState}
use Rattle.desk_trail.specs.Written.{step_of}
use Rattle.legal_trail.specs.Recorded.{Recorded}
use Rattle.desk_core.specs.Appends.{Appends, AppendsOf}
use Rattle.desk_core.specs.Commands.{HasGone, IsAtWork, IsInStep, MovesLease, MovesOne}
use Rattle.desk_core.specs.Kept.{IsReady}
use Rattle.desk_core.specs.Looks.{HasLooked, IsAnswerOf}
use Rattle.desk_core.specs.State.{Core}
use Rattle.desk_core.specs.Steps.{HasFound, IsWaiting, MeansEntry, MeansGoing, MeansPhase, MeansStep}
use Rattle.desk_core.specs.declared.progress.Progress.{Progress}
use Rattle.desk_core.specs.declared.progress.Progress.TheVariants as progress
use Rattle.desk_core.specs.declared.sight.Sight.{Sight}
use Rattle.desk_core.specs.declared.sight.Sight.TheVariants as sight
use Rattle.desk_core.specs.declared.words.Words.{Words}
use Rattle.desk_core.proofs.AppendsLemmas.{grown-trans, grown-weaken}
use Rattle.desk_core.proofs.ServerLemmas.{slice_get-set_same}

-- ---- Lists

-- what stands in a place, put there again
pub slice_set-again : {A : Type 0} (xs : List A) (k : ℕ) (x : A) → slice_get xs k ≡ Some x → slice_set xs k x ≡ xs
slice_set-again [] k x h = refl
slice_set-again (y ∷ ys) zero x h = let same : y ≡ x = (cc) in ap (λ z. z ∷ ys) (sym same)
slice_set-again (y ∷ ys) (suc k) x h = ap (λ zs. y ∷ zs) (slice_set-again ys k x h)

-- the last that is put there counts
pub slice_set-set : {A : Type 0} (xs : List A) (k : ℕ) (x y : A) → slice_set (slice_set xs k x) k y ≡ slice_set xs k y
slice_set-set [] k x y = refl
slice_set-set (z ∷ zs) zero x y = refl
slice_set-set (z ∷ zs) (suc k) x y = ap (λ vs. z ∷ vs) (slice_set-set zs k x y)

-- ---- Two facts of one answer

pub OnOk-both : {A E : Type 0} (r : Result A E) (P Q R : Type 0) → (P → Q → R) → OnOk r P → OnOk r Q → OnOk r R
OnOk-both (Ok a) P Q R f x y = f x y
OnOk-both (Err e) P Q R f x y = tt

-- ---- What was appended, and the net's count of faults

rose-later : (a b c : ℕ) → b ≤ c → Rose a b → Rose a c
rose-later a b c more rose = omega arith

rose-sooner : (a b c : ℕ) → a ≤ b → Rose b c → Rose a c
rose-sooner a b c less rose = omega arith

pub Appends-then : {P : Fact → Type 0} (a b c moment : ℕ) (old between new : Recorded) → a ≤ b → b ≤ c → AppendsOf (Rose a b) P moment old between →
    AppendsOf (Rose b c) P moment between new → AppendsOf (Rose a c) P moment old new
Appends-then {P} a b c moment old between new first second x y =
    grown-trans moment old between new (grown-weaken moment old between (rose-later a b c second) x) (grown-weaken moment between new (rose-sooner a b c first) y)

-- ---- A command that moves

pub MovesOne-none : (op : ℕ) (c : CommandState) (r : Recorded) → slice_get r.point.state.commands op ≡ Some c → MovesOne op c r r
MovesOne-none op c r there = record { commands = sym (slice_set-again r.point.state.commands op c there); sessions = refl; ids = refl }

pub MovesOne-then : (op : ℕ) (c d : CommandState) (old between new : Recorded) → MovesOne op c old between → MovesOne op d between new → MovesOne op d old new
MovesOne-then op c d old between new a b = record {
  commands = b.commands ∙ ap (λ cs. slice_set cs op d) a.commands ∙ slice_set-set old.point.state.commands op c d;
  sessions = b.sessions ∙ a.sessions;
  ids = b.ids ∙ a.ids;
}

pub IsAtWork-moved : {N : Type 0} (d e : Core N) (moment op : ℕ) (c x : CommandState) → IsAtWork d moment op c → IsReady e moment →
    e.trail.point.state.commands ≡ slice_set d.trail.point.state.commands op x → IsAtWork e moment op x
IsAtWork-moved {N} d e moment op c x work ready moved = record {
  ready = ready;
  there = ap (λ cs. slice_get cs op) moved ∙ slice_get-set_same d.trail.point.state.commands op x c work.there;
}

-- ---- With the client's sessions

pub HasGone-none : {N : Type 0} (d : Core N) (moment op : ℕ) (c : CommandState) (s : Sessions) → IsInStep d moment op c s → HasGone d d moment op c s
HasGone-none {N} d moment op c s step = record {
  step = step;
  commands = sym (slice_set-again d.trail.point.state.commands op c step.work.there);
}

pub HasGone-one : {N : Type 0} (d e : Core N) (moment op : ℕ) (c x : CommandState) (s : Sessions) → IsInStep d moment op c s → IsReady e moment →
    MovesOne op x d.trail e.trail → HasGone d e moment op x s
HasGone-one {N} d e moment op c x s step ready m = record {
  step = record {
    work = IsAtWork-moved d e moment op c x step.work ready m.commands;
    book = m.sessions ∙ step.book;
    ids = m.ids ∙ step.ids;
    late = step.late;
  };
  commands = m.commands;
}

pub HasGone-lease : {N : Type 0} (d e : Core N) (moment op : ℕ) (c x : CommandState) (s t : Sessions) → IsInStep d moment op c s → IsReady e moment →
    MovesLease op x t d.trail e.trail → t.last ≤ moment → HasGone d e moment op x t
HasGone-lease {N} d e moment op c x s t step ready m late = record {
  step = record {
    work = IsAtWork-moved d e moment op c x step.work ready m.commands;
    book = m.sessions;
    ids = m.ids;
    late = late;
  };
  commands = m.commands;
}

pub HasGone-then : {N : Type 0} (d e f : Core N) (moment op : ℕ) (c x : CommandState) (s t : Sessions) → HasGone d e moment op c s → HasGone e f moment op x t →
    HasGone d f moment op x t
HasGone-then {N} d e f moment op c x s t a b = record {
  step = b.step;
  commands = b.commands ∙ ap (λ cs. slice_set cs op x) a.commands ∙ slice_set-set d.trail.point.state.commands op c x;
}

-- ---- What an answer means

-- of one client as of another that is the same
pub IsWaiting-client : (a b : Client) (w : ClientState) (moment until : ℕ) (c : CommandState) → b ≡ a → IsWaiting a w moment until c → IsWaiting b w moment until c
IsWaiting-client a b w moment until c same h = subst (λ (x : Client). IsWaiting x w moment until c) (sym same) h

-- phases of which none leases a session answer as those do of which one may
pub MeansEntry-phase : (client : Client) (w : ClientState) (moment : ℕ) (own : Lsid) (c : CommandState) (p : Progress) → MeansPhase client w moment c p → MeansEntry client w moment own c p
MeansEntry-phase client w moment own c progress.Done h = h
MeansEntry-phase client w moment own c (progress.Wait until) h = h
MeansEntry-phase client w moment own c progress.Again h = absurd h

pub IfOk-by : {A E : Type 0} (r : Result A E) (P Q : A → Type 0) → ((a : A) → P a → Q a) → IfOk r P → IfOk r Q
IfOk-by (Ok a) P Q f h = f a h
IfOk-by (Err e) P Q f h = h

-- a step that did not look answers as any step does
pub MeansStep-going : (moment op : ℕ) (words : Words) (old new : Recorded) (s : Sight) → MeansGoing moment op (id_of words.c words.d) new s → MeansStep moment op words old new s
MeansStep-going moment op words old new sight.Answered h = h
MeansStep-going moment op words old new (sight.Wait until) h = h
MeansStep-going moment op words old new sight.Again h = inl h

-- the look that it made stands among the entries, with those ahead of it and behind it
pub HasFound-more : {R : Type 0} (moment op a b : ℕ) (old between new : Recorded) → HasFound moment op a b old between → Appends R moment between new → HasFound moment op a b old new
HasFound-more {R} moment op a b old between new f g =
    let look : Step = step_of moment (entry.Looked op a b f.kept f.how) in
    record {
      ahead = f.ahead;
      kept = f.kept;
      how = f.how;
      rest = f.rest ++ g.added;
      steps = g.steps ∙ ap (λ (xs : List Step). xs ++ g.added) f.steps ∙ append_assoc old.steps (f.ahead ++ look ∷ f.rest) g.added
          ∙ ap (λ (xs : List Step). old.steps ++ xs) (append_assoc f.ahead (look ∷ f.rest) g.added);
      found = f.found;
    }

pub HasFound-behind : {R : Type 0} (moment op a b : ℕ) (old between new : Recorded) → Appends R moment old between → HasFound moment op a b between new → HasFound moment op a b old new
HasFound-behind {R} moment op a b old between new g f =
    let look : Step = step_of moment (entry.Looked op a b f.kept f.how) in
    record {
      ahead = g.added ++ f.ahead;
      kept = f.kept;
      how = f.how;
      rest = f.rest;
      steps = f.steps ∙ ap (λ (xs : List Step). xs ++ (f.ahead ++ look ∷ f.rest)) g.steps ∙ append_assoc old.steps g.added (f.ahead ++ look ∷ f.rest)
          ∙ ap (λ (xs : List Step). old.steps ++ xs) (sym (append_assoc g.added f.ahead (look ∷ f.rest)));
      found = f.found;
    }

-- a look that was answered by going on found a server, or that there can be none
pub HasFound-looked : {P : Type 0} (allows : P → Candidate → Bool) (follows : P → Candidate → P → Type 0) (failed : Type 0) (moment op a b : ℕ) (c : CommandState) (old new : Recorded)
    (p q : P) (answer : Progress) → answer ≡ progress.Done → HasLooked allows follows failed moment op a b c old new p q answer → HasFound moment op a b old new
HasFound-looked {P} allows follows failed moment op a b c old new p q answer done h =
    let look : Step = step_of moment (entry.Looked op a b h.kept h.how) in
    record {
      ahead = h.grows.appends.added;
      kept = h.kept;
      how = h.how;
      rest = h.rest;
      steps = h.steps ∙ ap (λ (xs : List Step). xs ++ look ∷ h.rest) h.grows.appends.steps ∙ append_assoc old.steps h.grows.appends.added (look ∷ h.rest);
      found = subst (λ x. IsAnswerOf x h.how) done h.answers;
    }

-- an answer that goes on in the same step, behind more entries
pub MeansStep-behind : {R : Type 0} (moment op : ℕ) (words : Words) (old between new : Recorded) (s : Sight) → Appends R moment old between →
    MeansStep moment op words between new s → MeansStep moment op words old new s
MeansStep-behind {R} moment op words old between new sight.Answered g h = h
MeansStep-behind {R} moment op words old between new (sight.Wait until) g h = h
MeansStep-behind {R} moment op words old between new sight.Again g (inl h) = inl h
MeansStep-behind {R} moment op words old between new sight.Again g (inr h) =
    inr (record { selects = h.selects; found = HasFound-behind moment op words.a words.b old between new g h.found })

-- A history worked out by hand: a write at member 0, its answer, and the election of member 1. It is honest, whatever bytes hold the
-- two messages, and the write then stands once in the log of member 1.
use Rattle.std.proofs.Common.{◌≡◌, ◌<◌, ℕ, zero, suc, true, List, [], ◌∷◌, ◌++◌, Some, refl, sym, ap, ◌∙◌, subst, arith}
use Rattle.std.specs.Prelude.{slice_index_or}
use Rattle.std.specs.List.{Contains, slice_get}
use Rattle.msg_wire.specs.Messages.{messages}
use Rattle.msg_wire.specs.declared.message.Message.{Message}
use Rattle.net_link.specs.declared.event.Effect.{Effect}
use Rattle.net_link.specs.declared.event.Effect.TheVariants.{Added}
use Rattle.net_link.specs.declared.event.NetEvent.{NetEvent}
use Rattle.net_link.specs.declared.event.NetEvent.TheVariants as event
use Rattle.member_core.specs.Honest.{Fits, IsAnswer, IsHonest, MayHandle, WasPlain}
use Rattle.member_core.specs.Keys.{is_write}
use Rattle.member_core.specs.Logs.{key_at, times, set_after}
use Rattle.member_core.proofs.Growth.{honest-more, honest-nil}
use Rattle.member_core.proofs.Runs.{keeps_plain}
use Rattle.member_core.proofs.Steps.{may_come, may_dial, may_elect, may_handle, may_write}

no_events : (e : NetEvent) → ¬ (Contains [] e)
no_events e there = let below : there.0 < 0 = there.1 in omega arith

-- ---- the history

abbrev dialled : List NetEvent
dialled = event.Dialled 0 (97 ∷ []) ∷ []

module _ (out came : List ℕ) where
  abbrev written : List NetEvent
  written = event.Dialled 0 (97 ∷ []) ∷ event.Out 0 out ∷ []

  abbrev done : List NetEvent
  done = event.Dialled 0 (97 ∷ []) ∷ event.Out 0 out ∷ event.Handled 0 0 0 Added ∷ []

  abbrev answered : List NetEvent
  answered = event.Dialled 0 (97 ∷ []) ∷ event.Out 0 out ∷ event.Handled 0 0 0 Added ∷ event.Came 0 came ∷ []

  abbrev chosen : List NetEvent
  chosen = event.Dialled 0 (97 ∷ []) ∷ event.Out 0 out ∷ event.Handled 0 0 0 Added ∷ event.Came 0 came ∷ event.Elected 1 ∷ []

  -- ---- what it leaves, moment by moment

  out-written : (set_after written).out 0 ≡ out
  unfolding set_after
  out-written = refl

  takes-written : (set_after written).takes 0 ≡ true
  unfolding set_after
  takes-written = refl

  log-written : (set_after written).log 0 ≡ []
  unfolding set_after
  log-written = refl

  last-written : (set_after written).last ≡ 0
  unfolding set_after
  last-written = refl

  out-done : (set_after done).out 0 ≡ out
  unfolding set_after
  out-done = refl

  came-done : (set_after done).came 0 ≡ []
  unfolding set_after
  came-done = refl

  last-chosen : (set_after chosen).last ≡ 1
  unfolding set_after
  last-chosen = refl

  -- ---- it is honest

  not_handled_at : (k other n : ℕ) (e : Effect) → k < 2 → slice_index_or written k (event.Handled other 0 n e) ≡ event.Handled other 0 n e → ⊥
  not_handled_at zero other n e below is = cc
  not_handled_at (suc zero) other n e below is = cc
  not_handled_at (suc (suc k)) other n e below is = omega arith

  not_handled : (other n : ℕ) (e : Effect) → ¬ (Contains written (event.Handled other 0 n e))
  not_handled other n e there = not_handled_at there.0 other n e there.1 there.2

  module _ (request reply : Message) (sent : messages out ≡ request ∷ []) (answers : messages came ≡ reply ∷ []) (write : is_write request.body ≡ true) (to : reply.to ≡ request.id) where
    honest-dialled : IsHonest dialled
    honest-dialled = honest-more [] (event.Dialled 0 (97 ∷ [])) honest-nil (may_dial [] 0 (97 ∷ []) (λ t d. absurd (no_events (event.Dialled t d.0) d.1)))

    honest-written : IsHonest written
    honest-written = honest-more dialled (event.Out 0 out) honest-dialled (may_write dialled 0 out (97 ∷ [], (0, omega arith, refl)))

    may : MayHandle written 0 0 0 Added
    may = record {
      request = request;
      whole = ap (λ bytes. slice_get (messages bytes) 0) out-written ∙ ap (λ (ms : List Message). slice_get ms 0) sent;
      fits = subst (λ b. Fits (set_after written) 0 (key_at (set_after written) 0 0) b Added) (sym write) (takes-written, ap (times (key_at (set_after written) 0 0)) log-written);
      once = λ other e there. not_handled other 0 e there;
      one = λ other n e there. absurd (not_handled other n e there);
    }

    honest-done : IsHonest done
    honest-done = honest-more written (event.Handled 0 0 0 Added) honest-written (may_handle written 0 0 0 Added (97 ∷ [], (0, omega arith, refl)) may)

    is_answer : IsAnswer done 0 0 reply
    is_answer = record {
      member = 0;
      effect = Added;
      handled = (2, omega arith, refl);
      request = request;
      whole = ap (λ bytes. slice_get (messages bytes) 0) out-done ∙ ap (λ (ms : List Message). slice_get ms 0) sent;
      to = to;
      ok = λ is_write is_ok. record { before = written; after = []; effect = Added; here = ap (λ m. written ++ event.Handled m 0 0 Added ∷ []) (sym last-written); plain = tt };
    }

    only : (n : ℕ) (r : Message) → slice_get (reply ∷ []) n ≡ Some r → IsAnswer done 0 n r
    only zero r e = let same : reply ≡ r = cc in subst (λ m. IsAnswer done 0 0 m) same is_answer
    only (suc n) r e = absurd (let clash : ⊥ = cc in clash)

    honest-answered : IsHonest answered
    honest-answered = honest-more done (event.Came 0 came) honest-done (may_come done 0 came (97 ∷ [], (0, omega arith, refl))
        (λ n r whole.
        let bytes : (set_after done).came 0 ++ came ≡ came = ap (λ l. l ++ came) came-done in
        only n r (sym (ap (λ (ms : List Message). slice_get ms n) (ap messages bytes ∙ answers)) ∙ whole)))

    honest-chosen : IsHonest chosen
    honest-chosen = honest-more answered (event.Elected 1) honest-answered (may_elect answered 1)

    -- ---- and keeps the write

    plain : WasPlain chosen 0 0
    plain = record {
      before = written;
      after = event.Came 0 came ∷ event.Elected 1 ∷ [];
      effect = Added;
      here = ap (λ m. written ++ event.Handled m 0 0 Added ∷ event.Came 0 came ∷ event.Elected 1 ∷ []) (sym last-written);
      plain = tt;
    }

    stays : times (key_at (set_after chosen) 0 0) ((set_after chosen).log 1) ≡ 1
    stays = subst (λ m. times (key_at (set_after chosen) 0 0) ((set_after chosen).log m) ≡ 1) last-chosen (keeps_plain chosen honest-chosen chosen [] 0 0 refl plain)

-- The law of retried writes, from those of its parts.
use Rattle.std.proofs.Common.{◌≡◌, ℕ, List, Some, eqb}
use Rattle.std.specs.List.{slice_get}
use Rattle.entry_judge.specs.declared.timed.Timed.{Timed}
use Rattle.net_link.specs.declared.event.NetEvent.{NetEvent}
use Rattle.member_core.specs.Honest.{IsHonest}
use Rattle.member_core.specs.Keys.{same_key}
use Rattle.member_core.specs.Once.{AtMostOnce, Keeps}
use Rattle.desk_trail.specs.declared.request.Request.{Request}
use Rattle.desk_trail.specs.Clients.{Client}
use Rattle.desk_trail.specs.Facts.{Fact}
use Rattle.desk_trail.specs.Legal.{AreLegal}
use Rattle.wired_trail.specs.Wired.{IsWired}
use Rattle.request_keys.specs.Keys.{IsSeenAs, key_of_request}
use Rattle.request_keys.specs.Requests.{IsAttempt, requests_on}
use Rattle.answer_laws.specs.Answers.{HasOkReply, IsReportedOk}
use Rattle.write_effects.specs.Effects.{TakesEffectOnce}
use Rattle.write_effects.proofs.EffectLemmas.{effects_at_most, exactly_once}

pub takes_effect_once :
    ((history : List NetEvent) → IsHonest history → AtMostOnce history)
    → ((history : List NetEvent) → IsHonest history → Keeps history)
    → ((client : Client) (facts : List (Timed Fact)) (stream nth : ℕ) (r : Request) → AreLegal client facts
    → slice_get (requests_on client facts stream) nth ≡ Some r → IsSeenAs client r)
    → ((client : Client) (facts : List (Timed Fact)) (a s n b t m : ℕ) (r q : Request) → AreLegal client facts
    → IsAttempt client facts a s n r → IsAttempt client facts b t m q → same_key (key_of_request r s n) (key_of_request q t m) ≡ eqb a b)
    → ((client : Client) (facts : List (Timed Fact)) (op : ℕ) → AreLegal client facts → IsReportedOk facts op → HasOkReply client facts op)
    → (client : Client) (facts : List (Timed Fact)) (history : List NetEvent) (op : ℕ)
    → AreLegal client facts → IsWired client history facts → IsHonest history → TakesEffectOnce client facts history op
takes_effect_once once keeps messages keys replies client facts history op legal wired honest = record {
  at_most = effects_at_most client facts history op
      (λ s n r there. messages client facts s n r legal there)
      (λ a s n b t m r q one other. keys client facts a s n b t m r q legal one other)
      (once history honest) wired honest;
  exactly = λ writes reported. exactly_once client facts history op
      (λ s n r there. messages client facts s n r legal there)
      (λ a s n b t m r q one other. keys client facts a s n b t m r q legal one other)
      (once history honest) (keeps history honest) wired honest writes (replies client facts op legal reported);
}

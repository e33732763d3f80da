-- Sums of numbers, and the greatest of numbers.
use Rattle.std.proofs.Common.{◌≡◌, ◌≤◌, ◌<◌, ℕ, ◌+◌, ◌^◌, Bool, true, false, List, [], ◌∷◌, ◌++◌, length, map, max, arith, sym, ap, ◌∙◌, if◌then◌else◌, append-nil}
use Rattle.std.specs.List.{range_with_len}
use Rattle.std.proofs.lemmas.List.FromFn.{map-range_with_len_more}
use Rattle.entry_judge.specs.declared.timed.Timed.{Timed}
use Rattle.cmd_build.specs.declared.command.Command.{Command}
use Rattle.net_link.specs.declared.event.NetEvent.{NetEvent}
use Rattle.member_core.specs.Logs.{set_after}
use Rattle.member_core.specs.declared.log.LogEntry.{LogEntry}
use Rattle.desk_trail.specs.Clients.{Client}
use Rattle.desk_trail.specs.Facts.{Fact}
use Rattle.write_effects.specs.Effects.{TakesEffectOnce, effects}
use Rattle.effect_count.specs.Counts.{effects_by, effects_from}
use Rattle.shell_top.specs.Summary.{greatest, is_write, of_writes}

-- ---- The greatest of numbers

-- The greatest of numbers and one more.
greatest-append : (ns : List ℕ) (n : ℕ) → greatest (ns ++ n ∷ []) ≡ max (greatest ns) n
greatest-append [] n = omega arith
greatest-append (m ∷ ns) n = let rest : greatest (ns ++ n ∷ []) ≡ max (greatest ns) n = greatest-append ns n in omega arith

pub greatest-more : (f : ℕ → ℕ) (n most now next : ℕ) → most ≡ greatest (map f (range_with_len 0 n)) → now ≡ f n → next ≡ max most now →
    next ≡ greatest (map f (range_with_len 0 (n + 1)))
greatest-more f n most now next before is more =
    more ∙ ap (λ m. max m now) before ∙ ap (max (greatest (map f (range_with_len 0 n)))) is
    ∙ sym (ap greatest (map-range_with_len_more f 0 n n (omega arith)) ∙ greatest-append (map f (range_with_len 0 n)) (f n))

-- ---- The sum of the effects of writes

at-most-one : (b : Bool) (n : ℕ) → n ≤ 1 → (if b then n else 0) ≤ 1
at-most-one true n le = le
at-most-one false n le = omega arith

-- Where each command took effect at most once, the sum is at most the number of commands.
at-most : (client : Client) (facts : List (Timed Fact)) (log : List LogEntry) → ((op : ℕ) → effects client facts op log ≤ 1) →
    (op : ℕ) (cs : List Command) → of_writes cs (effects_from client facts log op cs) ≤ length cs
at-most client facts log once op [] = omega arith
at-most client facts log once op (c ∷ cs) =
    let rest : of_writes cs (effects_from client facts log (op + 1) cs) ≤ length cs = at-most client facts log once (op + 1) cs in
    let here : (if is_write c then effects client facts op log else 0) ≤ 1 = at-most-one (is_write c) (effects client facts op log) (once op) in
    omega arith

pub effects-fit : (client : Client) (facts : List (Timed Fact)) (history : List NetEvent) (member : ℕ) → length client.commands ≤ 100000 →
    ((op : ℕ) → TakesEffectOnce client facts history op) → of_writes client.commands (effects_by client facts ((set_after history).log member)) < 2 ^ 64
effects-fit client facts history member few once =
    let most = at-most client facts ((set_after history).log member) (λ op. (once op).at_most history [] member (sym (append-nil history))) 0 client.commands in
    omega arith

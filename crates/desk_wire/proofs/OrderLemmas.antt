-- All writes before all reads, turn by turn.
use Rattle.std.proofs.Common.{◌≡◌, ℕ, true, List, [], ◌∷◌, ◌++◌, refl, sym, ap, ◌∙◌, subst, append_assoc, append-nil, eq-eqb, rules}
use Rattle.std.proofs.lemmas.List.{append_cancel_left}
use Rattle.std.proofs.lemmas.List.Elements.{All-append}
use Rattle.std.specs.List.{filter}
use Rattle.net_link.specs.Events.{Adds, is_call}
use Rattle.net_link.specs.declared.event.NetEvent.{NetEvent}
use Rattle.net_link.specs.declared.event.NetEvent.TheVariants as event
use Rattle.net_link.proofs.EventLemmas.{Adds-none, Adds-trans}
use Rattle.desk_wire.specs.Exchange.{waiting}
use Rattle.desk_wire.specs.Made.{InOrder, Made, is_read, is_reading, is_write, is_writing}
use Rattle.desk_wire.proofs.MadeLemmas.{All-wider}

writing-write : (s : ℕ) (e : NetEvent) → is_write s e ≡ true → is_writing s e ≡ true
writing-write s (event.Out t bytes) here = here
writing-write s (event.Dialled t a) here = cc
writing-write s (event.NoDial a) here = cc
writing-write s (event.Came t b) here = cc
writing-write s (event.Ended t) here = cc
writing-write s (event.Fault t) here = cc
writing-write s (event.Closed t) here = cc
writing-write s (event.Dry t) here = cc
writing-write s (event.Full t) here = cc
writing-write s (event.Handled m t n f) here = cc
writing-write s (event.Elected m) here = cc
writing-write s (event.Followed m) here = cc

reading-read : (s : ℕ) (e : NetEvent) → is_read s e ≡ true → is_reading s e ≡ true
reading-read s (event.Came t bytes) here = here
reading-read s (event.Dialled t a) here = cc
reading-read s (event.NoDial a) here = cc
reading-read s (event.Out t b) here = cc
reading-read s (event.Ended t) here = cc
reading-read s (event.Fault t) here = cc
reading-read s (event.Closed t) here = cc
reading-read s (event.Dry t) here = cc
reading-read s (event.Full t) here = cc
reading-read s (event.Handled m t n f) here = cc
reading-read s (event.Elected m) here = cc
reading-read s (event.Followed m) here = cc

-- What a call adds of its own is one list.
Adds-once : {xs ys a b : List NetEvent} → Adds xs a b → Adds ys a b → xs ≡ ys
Adds-once {xs = xs} {ys = ys} {a = a} p q = append_cancel_left (filter is_call a) xs ys (sym p.own ∙ q.own)

none-first : (xs ys : List NetEvent) → xs ++ ys ≡ [] → xs ≡ []
none-first [] ys none = refl
none-first (x ∷ xs) ys none = cc

pub InOrder-none : (s : ℕ) (unsent : List ℕ) (h : List NetEvent) → InOrder s unsent unsent [] h h
InOrder-none s unsent h = record { writes = []; reads = []; adds = Adds-none h; only_writes = search rules; only_reads = search rules; idle = λ _. refl; behind = λ _. refl }

-- Writes alone.
pub InOrder-push : (s : ℕ) (unsent rest sent : List ℕ) (last : List NetEvent) {a b : List NetEvent} → Made (is_write s) sent [] last a b → (unsent ≡ [] → Adds [] a b)
    → InOrder s unsent rest last a b
InOrder-push s unsent rest sent last {a = a} {b = b} p idle = record {
  writes = p.turns;
  reads = [];
  adds = subst (λ (l : List NetEvent). Adds (l ++ last) a b) (sym (append-nil p.turns)) p.adds;
  only_writes = All-wider (is_write s) (is_writing s) (writing-write s) p.turns p.only;
  only_reads = search rules;
  idle = λ none. none-first p.turns last (Adds-once p.adds (idle none));
  behind = λ _. refl;
}

-- Writes, and reads behind them where all is sent.
pub InOrder-both : (s : ℕ) (unsent rest sent came : List ℕ) (last : List NetEvent) {a b c : List NetEvent} → rest ≡ [] → Made (is_write s) sent [] [] a b → (unsent ≡ [] → Adds [] a b)
    → Made (is_read s) [] came last b c → InOrder s unsent rest last a c
InOrder-both s unsent rest sent came last {a = a} {c = c} all p idle q = record {
  writes = p.turns;
  reads = q.turns;
  adds =
      let same : (p.turns ++ []) ++ (q.turns ++ last) ≡ (p.turns ++ q.turns) ++ last
      = ap (λ (l : List NetEvent). l ++ (q.turns ++ last)) (append-nil p.turns) ∙ sym (append_assoc p.turns q.turns last) in
      subst (λ (l : List NetEvent). Adds l a c) same (Adds-trans p.adds q.adds);
  only_writes = All-wider (is_write s) (is_writing s) (writing-write s) p.turns p.only;
  only_reads = All-wider (is_read s) (is_reading s) (reading-read s) q.turns q.only;
  idle = λ none. none-first p.turns [] (Adds-once p.adds (idle none));
  behind = λ some. absurd (some all);
}

-- One turn behind others.
pub InOrder-trans : (s : ℕ) (unsent between rest : List ℕ) (last : List NetEvent) {a b c : List NetEvent} → (unsent ≡ [] → between ≡ []) → (between ≡ [] → rest ≡ [])
    → InOrder s unsent between [] a b → InOrder s between rest last b c → InOrder s unsent rest last a c
InOrder-trans s unsent [] rest last {a = a} {c = c} none_left stays p q =
    let idle : q.writes ≡ [] = q.idle refl in
    record {
      writes = p.writes;
      reads = p.reads ++ q.reads;
      adds =
          let same : ((p.writes ++ p.reads) ++ []) ++ ((q.writes ++ q.reads) ++ last) ≡ (p.writes ++ (p.reads ++ q.reads)) ++ last
          = ap (λ (l : List NetEvent). l ++ ((q.writes ++ q.reads) ++ last)) (append-nil (p.writes ++ p.reads))
          ∙ ap (λ (l : List NetEvent). (p.writes ++ p.reads) ++ ((l ++ q.reads) ++ last)) idle
          ∙ sym (append_assoc (p.writes ++ p.reads) q.reads last)
          ∙ ap (λ (l : List NetEvent). l ++ last) (append_assoc p.writes p.reads q.reads) in
          subst (λ (l : List NetEvent). Adds l a c) same (Adds-trans p.adds q.adds);
      only_writes = p.only_writes;
      only_reads = All-append (λ e. is_reading s e ≡ true) p.reads q.reads p.only_reads q.only_reads;
      idle = p.idle;
      behind = λ some. absurd (some (stays refl));
    }
InOrder-trans s unsent (x ∷ between) rest last {a = a} {c = c} none_left stays p q =
    let unread : p.reads ≡ [] = p.behind (λ none. cc) in
    record {
      writes = p.writes ++ q.writes;
      reads = q.reads;
      adds =
          let same : ((p.writes ++ p.reads) ++ []) ++ ((q.writes ++ q.reads) ++ last) ≡ ((p.writes ++ q.writes) ++ q.reads) ++ last
          = ap (λ (l : List NetEvent). l ++ ((q.writes ++ q.reads) ++ last)) (append-nil (p.writes ++ p.reads) ∙ ap (λ (l : List NetEvent). p.writes ++ l) unread ∙ append-nil p.writes)
          ∙ sym (append_assoc p.writes (q.writes ++ q.reads) last)
          ∙ ap (λ (l : List NetEvent). l ++ last) (sym (append_assoc p.writes q.writes q.reads)) in
          subst (λ (l : List NetEvent). Adds l a c) same (Adds-trans p.adds q.adds);
      only_writes = All-append (λ e. is_writing s e ≡ true) p.writes q.writes p.only_writes q.only_writes;
      only_reads = q.only_reads;
      idle = λ none. absurd (let clash : x ∷ between ≡ [] = none_left none in let never : ⊥ = cc in never);
      behind = q.behind;
    }

-- What the last call answered is one of the turns before the next.
pub InOrder-waited : (s : ℕ) (unsent rest : List ℕ) {a b : List NetEvent} → (unsent ≡ [] → rest ≡ []) → InOrder s unsent rest (waiting s rest ∷ []) a b → InOrder s unsent rest [] a b
InOrder-waited s unsent [] {a = a} {b = b} none_left p = record {
  writes = p.writes;
  reads = p.reads ++ event.Dry s ∷ [];
  adds =
      let same : (p.writes ++ p.reads) ++ event.Dry s ∷ [] ≡ (p.writes ++ (p.reads ++ event.Dry s ∷ [])) ++ []
      = append_assoc p.writes p.reads (event.Dry s ∷ []) ∙ sym (append-nil (p.writes ++ (p.reads ++ event.Dry s ∷ []))) in
      subst (λ (l : List NetEvent). Adds l a b) same p.adds;
  only_writes = p.only_writes;
  only_reads = All-append (λ e. is_reading s e ≡ true) p.reads (event.Dry s ∷ []) p.only_reads (search (rules, eq-eqb s s refl));
  idle = p.idle;
  behind = λ some. absurd (some refl);
}
InOrder-waited s unsent (x ∷ rest) {a = a} {b = b} none_left p =
    let unread : p.reads ≡ [] = p.behind (λ none. cc) in
    record {
      writes = p.writes ++ event.Full s ∷ [];
      reads = [];
      adds =
          let same : (p.writes ++ p.reads) ++ event.Full s ∷ [] ≡ ((p.writes ++ event.Full s ∷ []) ++ []) ++ []
          = ap (λ (l : List NetEvent). (p.writes ++ l) ++ event.Full s ∷ []) unread ∙ ap (λ (l : List NetEvent). l ++ event.Full s ∷ []) (append-nil p.writes)
          ∙ sym (append-nil (p.writes ++ event.Full s ∷ [])) ∙ sym (append-nil ((p.writes ++ event.Full s ∷ []) ++ [])) in
          subst (λ (l : List NetEvent). Adds l a b) same p.adds;
      only_writes = All-append (λ e. is_writing s e ≡ true) p.writes (event.Full s ∷ []) p.only_writes (search (rules, eq-eqb s s refl));
      only_reads = search rules;
      idle = λ none. absurd (let clash : x ∷ rest ≡ [] = none_left none in let never : ⊥ = cc in never);
      behind = λ _. refl;
    }

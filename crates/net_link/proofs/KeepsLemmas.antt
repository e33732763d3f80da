-- What calls keep of streams, one after another.
use Rattle.std.proofs.Common.{List, arith, subst, ℕ, ◌≡◌}
use Rattle.net_link.specs.Keeps.{Keeps, all, all_but_inbox_of}
use Rattle.net_link.proofs.PrefixLemmas.{IsPrefixOf-same, IsPrefixOf-trans}

-- Nothing was called.
pub Keeps-none : {A : Type 0} (tells : Type 0) (live : A → ℕ → Type 0) (mark : A → ℕ) (unread : A → ℕ → List ℕ) (ended : A → ℕ → Type 0) (a : A) → Keeps all tells live mark unread ended a a
Keeps-none tells live mark unread ended a = record {
  opens = λ t opened. opened;
  numbers = omega arith;
  arrives = λ _ t opened. IsPrefixOf-same (unread a t);
  stays_ended = λ _ t over. over;
}

-- What keeps all keeps all but a stream's inbox.
pub Keeps-less : {A : Type 0} (stream : ℕ) {tells : Type 0} {live : A → ℕ → Type 0} {mark : A → ℕ} {unread : A → ℕ → List ℕ} {ended : A → ℕ → Type 0} {a b : A}
    → Keeps all tells live mark unread ended a b → Keeps (all_but_inbox_of stream) tells live mark unread ended a b
Keeps-less stream p = record { opens = p.opens; numbers = p.numbers; arrives = λ tells t apart opened. p.arrives tells t opened; stays_ended = p.stays_ended }

-- Of calls that keep all.
pub Keeps-trans : {A : Type 0} {tells : Type 0} {live : A → ℕ → Type 0} {mark : A → ℕ} {unread : A → ℕ → List ℕ} {ended : A → ℕ → Type 0} {a b c : A}
    → Keeps all tells live mark unread ended a b → Keeps all tells live mark unread ended b c → Keeps all tells live mark unread ended a c
Keeps-trans p q = record {
  opens = λ t opened. q.opens t (p.opens t opened);
  numbers = omega (arith, p.numbers, q.numbers);
  arrives = λ tells t opened. IsPrefixOf-trans (p.arrives tells t opened) (q.arrives tells t (p.opens t opened));
  stays_ended = λ tells t over. q.stays_ended tells t (p.stays_ended tells t over);
}

-- Of calls that keep all but one stream's inbox.
pub KeepsBut-trans : {A : Type 0} {stream : ℕ} {tells : Type 0} {live : A → ℕ → Type 0} {mark : A → ℕ} {unread : A → ℕ → List ℕ} {ended : A → ℕ → Type 0} {a b c : A}
    → Keeps (all_but_inbox_of stream) tells live mark unread ended a b → Keeps (all_but_inbox_of stream) tells live mark unread ended b c
    → Keeps (all_but_inbox_of stream) tells live mark unread ended a c
KeepsBut-trans p q = record {
  opens = λ t opened. q.opens t (p.opens t opened);
  numbers = omega (arith, p.numbers, q.numbers);
  arrives = λ tells t apart opened. IsPrefixOf-trans (p.arrives tells t apart opened) (q.arrives tells t apart (p.opens t opened));
  stays_ended = λ tells t over. q.stays_ended tells t (p.stays_ended tells t over);
}

-- The same where the second call gives the stream's number by another name.
pub KeepsBut-next : {A : Type 0} {stream other : ℕ} {tells : Type 0} {live : A → ℕ → Type 0} {mark : A → ℕ} {unread : A → ℕ → List ℕ} {ended : A → ℕ → Type 0} {a b c : A}
    → other ≡ stream → Keeps (all_but_inbox_of stream) tells live mark unread ended a b → Keeps (all_but_inbox_of other) tells live mark unread ended b c
    → Keeps (all_but_inbox_of stream) tells live mark unread ended a c
KeepsBut-next {tells = tells} {live = live} {mark = mark} {unread = unread} {ended = ended} {b = b} {c = c} same p q =
    KeepsBut-trans p (subst (λ (s : ℕ). Keeps (all_but_inbox_of s) tells live mark unread ended b c) same q)

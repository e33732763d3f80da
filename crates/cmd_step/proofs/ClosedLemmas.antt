-- Which streams calls close, one behind another.
use Rattle.std.proofs.Common.{◌≡◌, ◌⊎◌, inl, inr, ℕ, sym, ap, ◌∙◌}
use Rattle.wired_trail.specs.Lines.{Lines, line_at}
use Rattle.wired_trail.specs.declared.stream_use.StreamUse.{StreamUse}
use Rattle.cmd_step.specs.Closed.{ClosesOnly, IsClosed, IsUnused}

pub ClosesOnly-refl : (Of : StreamUse → Type 0) (old new : Lines) → new ≡ old → ClosesOnly Of old new
ClosesOnly-refl Of old new e = λ stream. inl (ap (λ (ls : Lines). line_at ls stream) e)

closed-on : (Of : StreamUse → Type 0) (old mid new : Lines) (stream : ℕ) → IsClosed Of old mid stream → (line_at new stream ≡ line_at mid stream) ⊎ IsClosed Of mid new stream →
    IsClosed Of old new stream
closed-on Of old mid new stream a (inl e) = record { line = a.line; there = a.there; was_for = a.was_for; gone = e ∙ a.gone }
closed-on Of old mid new stream a (inr b) = record { line = a.line; there = a.there; was_for = a.was_for; gone = b.gone }

then-one : (Of : StreamUse → Type 0) (old mid new : Lines) (stream : ℕ) → (line_at mid stream ≡ line_at old stream) ⊎ IsClosed Of old mid stream →
    (line_at new stream ≡ line_at mid stream) ⊎ IsClosed Of mid new stream → (line_at new stream ≡ line_at old stream) ⊎ IsClosed Of old new stream
then-one Of old mid new stream (inl a) (inl b) = inl (b ∙ a)
then-one Of old mid new stream (inl a) (inr b) = inr (record { line = b.line; there = sym a ∙ b.there; was_for = b.was_for; gone = b.gone })
then-one Of old mid new stream (inr a) b = inr (closed-on Of old mid new stream a b)

pub ClosesOnly-trans : (Of : StreamUse → Type 0) (old mid new : Lines) → ClosesOnly Of old mid → ClosesOnly Of mid new → ClosesOnly Of old new
ClosesOnly-trans Of old mid new a b = λ stream. then-one Of old mid new stream (a stream) (b stream)

wider : (Of Or : StreamUse → Type 0) (old new : Lines) (stream : ℕ) → ((u : StreamUse) → Of u → Or u) → (line_at new stream ≡ line_at old stream) ⊎ IsClosed Of old new stream →
    (line_at new stream ≡ line_at old stream) ⊎ IsClosed Or old new stream
wider Of Or old new stream f (inl a) = inl a
wider Of Or old new stream f (inr a) = inr (record { line = a.line; there = a.there; was_for = f a.line.is_for a.was_for; gone = a.gone })

-- of a use that is one of others
pub ClosesOnly-wider : (Of Or : StreamUse → Type 0) (old new : Lines) → ((u : StreamUse) → Of u → Or u) → ClosesOnly Of old new → ClosesOnly Or old new
ClosesOnly-wider Of Or old new f a = λ stream. wider Of Or old new stream f (a stream)

unused-by : (Of : StreamUse → Type 0) (old new : Lines) (stream : ℕ) (is_for : StreamUse) → (line_at new stream ≡ line_at old stream) ⊎ IsClosed Of old new stream →
    IsUnused old stream is_for → IsUnused new stream is_for
unused-by Of old new stream is_for (inl a) h = λ line there. h line (sym a ∙ there)
unused-by Of old new stream is_for (inr a) h = λ line there. absurd (let gone = a.gone in cc)

-- a stream that is not used so is not behind a close
pub IsUnused-closed : (Of : StreamUse → Type 0) (old new : Lines) (stream : ℕ) (is_for : StreamUse) → ClosesOnly Of old new → IsUnused old stream is_for → IsUnused new stream is_for
IsUnused-closed Of old new stream is_for a h = unused-by Of old new stream is_for (a stream) h

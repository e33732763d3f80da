-- What is found is perished, and what remains is the others.
use Rattle.std.proofs.Common.{◌≡◌, eqb, true, refl, sym, ap, ◌∙◌, length, ◌≤◌, arith}
use Rattle.std.specs.List.{position_or_len}
use Rattle.std.proofs.lemmas.Bool.{eq-eqb}
use Rattle.std.proofs.lemmas.List.Folds.{find_at}
use Rattle.pool_book.specs.declared.connections.Available.{Available}
use Rattle.pool_book.specs.Parts.{RoomyAvailable}
use Rattle.pool_book.specs.Pool.{Pool, is_perished, is_swept}
use Rattle.pool_book.specs.Inside.{pool_of}
use Rattle.pool_book.proofs.ListLemmas.{IfNone-from, find-by, find-passes, length-filter_fewer, list_any-not_found}
use Rattle.pool_book.proofs.SoundLemmas.{Sound-swept}
use Rattle.pool_book.proofs.book.PoolBook.sweep.Goals as goal

pub invariant_of-self-2 : goal.invariant_of-self-2
invariant_of-self-2 c =
    let same = c.first_perished.ensures.same in
    let fewer : length c.remove.new.self.items ≤ length c.self.inside.available.items = rw (← same) c.remove.ensures.bound in
    let room : c.remove.new.self.room ≡ c.self.inside.available.room = c.remove.ensures.room ∙ ap (λ (l : RoomyAvailable). l.room) same in
    record {
      room = record {
        pending = omega (arith, c.self.invariant.room.pending, fewer);
        lent = omega (arith, c.self.invariant.room.lent, fewer);
        available = omega (arith, c.self.invariant.room.available, fewer, room);
        numbers = c.self.invariant.room.numbers;
        counted = c.self.invariant.room.counted;
      };
      sound = rw (c.remove.ensures.items, c.first_perished.ensures.same) (Sound-swept (pool_of c.self.inside) c.in_ok-perished.perished.conn c.self.invariant.sound);
    }

pub returns-in_err-perished-clause-none : goal.returns-in_err-perished-clause-none
returns-in_err-perished-clause-none c =
    let p = pool_of c.self.inside in
    let none = sym c.first_perished.ensures.found ∙ c.in_err-perished.was in
    let swept : is_swept p c.args.moment ≡ true = rw (list_any-not_found (is_perished p c.args.moment) p.available none) refl in
    rw (← c.self.view_is) (IfNone-from c.from_residual.result _ (swept, rw c.first_perished.ensures.same refl))

pub returns-clause-some : goal.returns-clause-some
returns-clause-some c =
    let p = pool_of c.self.inside in
    let a = c.in_ok-perished.perished in
    let found = sym c.first_perished.ensures.found ∙ c.in_ok-perished.was in
    rw (← c.self.view_is) (record {
      stands = (
        a,
        position_or_len (is_perished p c.args.moment) p.available,
        sym (find_at (is_perished p c.args.moment) p.available) ∙ found,
        find-passes (is_perished p c.args.moment) p.available a found,
        refl,
        c.perish_reason.ensures,
      );
      moves = rw (c.remove.ensures.items, c.first_perished.ensures.same) refl;
    })

pub returns-clause-fewer : goal.returns-clause-fewer
returns-clause-fewer c =
    let p = pool_of c.self.inside in
    let a = c.in_ok-perished.perished in
    let found = sym c.first_perished.ensures.found ∙ c.in_ok-perished.was in
    let there = find-by (is_perished p c.args.moment) (λ (b : Available). eqb b.conn a.conn) p.available a found (eq-eqb a.conn a.conn refl) in
    let fewer = length-filter_fewer (λ (b : Available). eqb b.conn a.conn) p.available there in
    rw (← c.self.view_is, c.remove.ensures.items, c.first_perished.ensures.same) fewer

use Rattle.std.proofs.Common.{◌≡◌, ◌≤◌, true, false, cond, Some, List, [], ◌∷◌, ◌++◌, length, refl, sym, ◌∙◌, ap, subst, arith}
use Rattle.std.specs.Prelude.{slice_get}
use Rattle.entry_judge.specs.Groups.{Goes}
use Rattle.sess_book.specs.declared.session.Kept.{Kept}
use Rattle.sess_book.specs.Entries.{Made, sessions_judge}
use Rattle.sess_book.specs.Ids.{is_same_id}
use Rattle.sess_book.specs.Inside.{IsSound, sessions_of}
use Rattle.sess_book.specs.Sessions.{has_minute_left, is_used, newest}
use Rattle.sess_book.proofs.ListLemmas.{slice_get-pushed}
use Rattle.sess_book.proofs.SoundLemmas.{made-sound, none_left}
use Rattle.sess_book.proofs.BookLemmas.{new_session, is_used-push, made-goes}
use Rattle.sess_book.proofs.book.SessBook.lease_new.Goals as goal

pub returns-then-contains-clause-answer : goal.returns-then-contains-clause-answer
returns-then-contains-clause-answer c = (
  refl,
  ap (λ s. is_used c.args.lsid s.made) (sym c.self.view_is) ∙ sym (c.self.invariant.index c.args.lsid) ∙ sym c.contains.ensures ∙ c.if-contains.true,
  none_left c.args.self.now c.args.minutes c.args.moment (subst (λ s. IsSound s) c.self.view_is c.self.invariant.sound) c.requires.left,
  refl,
)

-- the sessions that were made, with the new one
made_now : (c : goal.After-self-1) → c.push_reserved.new.self.items ≡ c.self.inside.made.items ++ new_session c.args.lsid ∷ []
made_now c = c.push_reserved.ensures.items ∙ ap (λ m. m ++ new_session c.args.lsid ∷ []) c.reserve-2.ensures.items

-- the sessions behind the call
sessions_now : (c : goal.After-self-1) → sessions_of (record { made = c.push_reserved.new.self; kept = c.clear.new.self; used = c.insert.new.self; last = c.args.moment })
    ≡ record { made = c.self.inside.made.items ++ new_session c.args.lsid ∷ []; kept = []; last = c.args.moment }
sessions_now c =
    ap (λ m. record { made = m; kept = c.clear.new.self.items; last = c.args.moment }) (made_now c)
    ∙ ap (λ k. record { made = c.self.inside.made.items ++ new_session c.args.lsid ∷ []; kept = k; last = c.args.moment }) c.clear.ensures.items

pub invariant_of-self-2 : goal.invariant_of-self-2
invariant_of-self-2 c = record {
  sound = subst (λ s. IsSound s) (sym (sessions_now c)) (made-sound (sessions_of c.self.inside) c.args.moment c.args.lsid c.self.invariant.sound);
  index = λ id.
      c.in_ok-insert.ensures.updates.0 id ∙ ap (λ b. cond (is_same_id c.args.lsid id) true b) (c.self.invariant.index id)
      ∙ sym (is_used-push id c.args.lsid c.self.inside.made.items) ∙ ap (λ m. is_used id m) (sym (made_now c));
  room = let r = c.in_ok-reserve.ensures.ok in omega (arith, r, c.clear.ensures.capacity, c.push_reserved.ensures.len, c.reserve-2.ensures.len);
}

-- the place of the new session
place_now : (c : goal.After-self-1) → c.len-place.result ≡ length c.self.inside.made.items
place_now c = let e = ap length c.reserve-2.ensures.items in let l = c.len-place.ensures in grind (arith, e, l)

pub returns-clause-answer : goal.returns-clause-answer
returns-clause-answer c =
    let s = sessions_of c.self.inside in
    let t = sessions_of (record { made = c.push_reserved.new.self; kept = c.clear.new.self; used = c.insert.new.self; last = c.args.moment }) in
    let unused : is_used c.args.lsid c.self.inside.made.items ≡ false = sym (c.self.invariant.index c.args.lsid) ∙ sym c.contains.ensures ∙ c.if-contains.false in
    let late = subst (λ x. x.last ≤ c.args.moment) (sym c.self.view_is) c.requires.late in
    let lacks = subst (λ x. (k : Kept) → newest x ≡ Some k → has_minute_left c.args.minutes c.args.moment k ≡ false) (sym c.self.view_is) c.requires.left in
    let goes = made-goes s t c.args.moment c.args.minutes c.args.lsid c.self.invariant.sound late unused lacks (sessions_now c) in (
      (
        refl,
        subst (λ x. Goes sessions_judge x c.args.moment (Made c.len-place.result c.args.lsid c.args.minutes) t) c.self.view_is
            (subst (λ n. Goes sessions_judge s c.args.moment (Made n c.args.lsid c.args.minutes) t) (sym (place_now c)) goes),
      ),
      record {
        session = new_session c.args.lsid;
        there = ap (λ m. slice_get m c.len-place.result) (made_now c)
            ∙ ap (λ n. slice_get (c.self.inside.made.items ++ new_session c.args.lsid ∷ []) n) (place_now c)
            ∙ slice_get-pushed c.self.inside.made.items (new_session c.args.lsid);
        same = refl;
      },
    )

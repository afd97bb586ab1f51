use Rattle.std.proofs.Common.{◌≡◌, ◌+◌, ◌≤◌, ◌++◌, ap, sym, subst, ◌∙◌, arith, Some, ℕ, Option, List, [], ◌∷◌, length}
use Rattle.std.specs.Prelude.{slice_get, option_to_list, option_map, MatchOption}
use Rattle.norm_base.specs.Settings.{Settings}
use Rattle.fec_plan.specs.Partition.{Cut}
use Rattle.tx_object.specs.Held.{HeldObject, octets_of, octets_in}
use Rattle.tx_object.specs.Placed.{taken_by}
use Rattle.tx_object.specs.Round.{round, IsAround}
use Rattle.tx_object.proofs.RoundLemmas.{length-round}
use Rattle.tx_window.specs.WindowState.{Filling, WindowState, Stands}
use Rattle.tx_window.specs.Rows.{filling_in, IsRow, IsFilling}
use Rattle.tx_window.proofs.RowLemmas.{symbols_taken}
use Rattle.tx_window.proofs.BeginningLemmas.{placed_cut, cut_more}
use Rattle.tx_window.proofs.FillingLemmas.{IsPut, filled_more, kept_octets, placed_kept, row_kept, filling_kept}
use Rattle.tx_window.specs.WindowSound.{window_view, objects_in, all_kept}
use Rattle.tx_window.proofs.ObjectsLemmas.{object_there}
use Rattle.tx_window.proofs.StandingLemmas.{stands_filling}
use Rattle.tx_window.proofs.window.Window.fill.Goals as goal

-- the object that is being filled, as the caller knows it
seen : (c : goal.After-self-2-1) → c.args.self.now.filling ≡ Some (filling_in c.self.inside.ring c.self.inside.filled c.in-Some.begun)
seen c = ap (λ (v : WindowState). v.filling) (sym c.self.view_is) ∙ ap (option_map (filling_in c.self.inside.ring c.self.inside.filled)) c.in-Some.is

begun : (c : goal.After-self-2-1) → IsFilling c.self.inside.ring c.self.inside.profile c.self.inside.filled c.in-Some.begun
begun c = c.self.invariant.filling c.in-Some.begun c.in-Some.is

-- so many octets are there
there : (c : goal.After-self-2-1) → (octets_of c.in-Some.begun.cut ≤ taken_by c.in-Some.begun) × (c.self.inside.filled + length c.args.piece.now ≤ octets_of c.in-Some.begun.cut)
there c =
    let w = c.self.inside in
    let h = c.in-Some.begun in
    let p : Settings = w.profile in
    let e-is : h.cut.e ≡ p.e = ap (λ (k : Cut). k.e) (begun c).cut in
    let taken = symbols_taken p h (omega (arith, e-is, (begun c).sound.least_e)) (begun c).cut in
    let fits = subst (λ (r : Option Filling). MatchOption r ⊥ (λ f. length f.octets + length c.args.piece.now ≤ f.len)) (seen c) c.requires in
    (taken.1.0, omega (arith, fits, length-round w.ring h.start w.filled (begun c).lies.start (omega (arith, (begun c).within, taken.1.0, (begun c).lies.room))))

put : (c : goal.After-self-2-1) → IsPut c.self.inside.ring c.write.new.self c.args.piece.now c.in-Some.begun.start c.self.inside.filled c.behind-at.result
put c = record {
  size = c.write.ensures.size;
  around = subst (λ n. IsAround (length c.self.inside.ring) (n + c.self.inside.filled) c.behind-at.result) c.start.ensures c.behind-at.ensures;
  written = c.write.ensures.written;
  others = c.write.ensures.others;
}

kept : (c : goal.After-self-2-1) (i : ℕ) (o : HeldObject) → slice_get (objects_in c.self.inside.held.items) i ≡ Some o → octets_in c.write.new.self o ≡ octets_in c.self.inside.ring o
kept c =
    let w = c.self.inside in
    let h = c.in-Some.begun in
    let hs = objects_in w.held.items in
    let p : Settings = w.profile in
    let e-is : h.cut.e ≡ p.e = ap (λ (k : Cut). k.e) (begun c).cut in
    let all : all_kept w ≡ hs ++ h ∷ [] = ap (λ b. hs ++ option_to_list b) c.in-Some.is in
    kept_octets w.ring c.write.new.self c.args.piece.now p hs h w.free w.filled c.behind-at.result (put c) (omega (arith, e-is, (begun c).sound.least_e)) c.self.invariant.ring_long
    (subst (λ ks. IsRow w.ring p ks w.free) all c.self.invariant.row)
    (cut_more p hs h (λ i k e. placed_cut w.ring p k (c.self.invariant.placed i k e)) (begun c).cut)
    (omega (arith, (there c).0, (there c).1))

pub invariant_of-self : goal.invariant_of-self
invariant_of-self c =
    let w = c.self.inside in
    let old = c.self.invariant in
    record {
      ring_long = c.write.ensures.size ∙ old.ring_long;
      octets = old.octets;
      fit = old.fit;
      few = old.few;
      row = row_kept w.ring c.write.new.self w.profile (all_kept w) w.free c.write.ensures.size old.row;
      placed = λ i o e. placed_kept w.ring c.write.new.self w.profile o c.write.ensures.size (kept c i o e) (old.placed i o e);
      filling = λ k e.
          let same : c.in-Some.begun ≡ k = is k (sym c.in-Some.is ∙ e) in
          subst (IsFilling c.write.new.self w.profile (w.filled + length c.args.piece.now)) same
          (filling_kept w.ring c.write.new.self w.profile w.filled (w.filled + length c.args.piece.now) c.in-Some.begun c.write.ensures.size (there c).1 (begun c));
      room = old.room;
      counted = old.counted;
      sized = old.sized;
      numbered = old.numbered;
    }
  where
    is : (k : HeldObject) → Some c.in-Some.begun ≡ Some k → c.in-Some.begun ≡ k
    is k e = cc

pub returns-clause-filling : goal.returns-clause-filling
returns-clause-filling c = λ f f-is.
    let w = c.self.inside in
    let h = c.in-Some.begun in
    let new = c.write.new.self in
    let same : filling_in w.ring w.filled h ≡ f = is f (sym (seen c) ∙ f-is) in
    let octets : round new h.start (w.filled + length c.args.piece.now) ≡ round w.ring h.start w.filled ++ c.args.piece.now =
    filled_more w.ring new c.args.piece.now h.start w.filled c.behind-at.result (put c) (begun c).lies.start (omega (arith, (there c).0, (there c).1, (begun c).lies.room)) in
    ap (option_map (filling_in new (w.filled + length c.args.piece.now))) c.in-Some.is
    ∙ ap (λ (xs : List ℕ). Some (record { kind = h.kind; info = h.info; len = octets_of h.cut; octets = xs })) octets
    ∙ ap (λ (g : Filling). Some (record g { octets = g.octets ++ c.args.piece.now })) same
  where
    is : (f : Filling) → Some (filling_in c.self.inside.ring c.self.inside.filled c.in-Some.begun) ≡ Some f → filling_in c.self.inside.ring c.self.inside.filled c.in-Some.begun ≡ f
    is f e = cc

pub returns-clause-stands : goal.returns-clause-stands
returns-clause-stands c = λ s stands.
    let w = c.self.inside in
    stands_filling (window_view w) s c.write.new.self (option_map (filling_in c.write.new.self (w.filled + length c.args.piece.now)) w.begun)
    (λ n h is.
    let at = object_there w.held.items n h is in
    let same = kept c at.0 h at.1 in
    (placed_kept w.ring c.write.new.self w.profile h c.write.ensures.size same (c.self.invariant.placed at.0 h at.1), same))
    (subst (λ (v : WindowState). Stands v s) (sym c.self.view_is) stands)

-- A symbol that comes to an object gets the word of the rules.
use Rattle.std.proofs.Common.{◌≡◌, ℕ, ◌+◌, List, [], ◌∷◌, length, Bool, true, false, Some, None, refl, sym, ap, ◌∙◌}
use Rattle.std.specs.Prelude.{◌&&◌, ◌||◌, ◌==◌, not, nat_lt, nat_le}
use Rattle.std.proofs.lemmas.Bool.{ltb-true, le-leb, lt-leb, ltb-false}
use Rattle.norm_base.specs.Settings.{Settings}
use Rattle.fec_plan.specs.declared.position.Position.{Position}
use Rattle.fec_plan.specs.Partition.{Cut, cut_of, stream_cut, blocks, encoding_symbols, sent_octets}
use Rattle.fec_plan.specs.Points.{position}
use Rattle.norm_ext.specs.declared.fti.Fti.{Fti}
use Rattle.norm_order.specs.First.{first_where}
use Rattle.norm_receive_rules.specs.Holding.{Holding, Plan}
use Rattle.norm_receive_rules.specs.Plans.{cut_of_plan, holds, is_done, says_stream, first_block}
use Rattle.norm_receive_rules.specs.Putting.{put_by, is_far, is_misfit, fits_stream}
use Rattle.norm_receive_rules.specs.declared.words.Put.{Put}
use Rattle.norm_receive_rules.specs.declared.words.Put.TheVariants as put
use Rattle.rx_object.specs.Offering.{is_payload}

-- ---- objects

abbrev cut_if : Bool → Fti → Cut
cut_if stream f = elim stream [ true ↦ stream_cut f.e f.b f.max_n | false ↦ cut_of f.l f.e f.b f.max_n ]

-- the partition of an object that is no stream
pub object_cut : (q : Plan) → says_stream q.flags ≡ false → cut_of_plan q ≡ cut_of q.fti.l q.fti.e q.fti.b q.fti.max_n
object_cut q none = ap (λ b. cut_if b q.fti) none

not_below : (m n : ℕ) → nat_le m n ≡ not (nat_lt n m)
not_below m n = go (nat_lt n m) refl
  where
    go : (b : Bool) → nat_lt n m ≡ b → nat_le m n ≡ not b
    go true e = lt-leb m n (ltb-true n m e)
    go false e = le-leb m n (ltb-false n m e)

none_of : (a b c : Bool) → (not a || not b || not c) ≡ not (a && b && c)
none_of true true c = refl
none_of true false c = refl
none_of false b c = refl

misfit_is : (p : Settings) (q : Plan) (at : Position) (payload : List ℕ) → says_stream q.flags ≡ false
    → is_misfit p q at payload ≡ not (is_payload (cut_of_plan q) at.block at.symbol payload)
misfit_is p q at payload none =
    let c : Cut = cut_of_plan q in
    ap (λ b. nat_le (blocks c) at.block || nat_le (encoding_symbols c at.block) at.symbol || not (length_if b)) none
    ∙ ap (λ b. b || nat_le (encoding_symbols c at.block) at.symbol || not (length payload == sent_octets c at.block at.symbol)) (not_below (blocks c) at.block)
    ∙ ap (λ b. not (nat_lt at.block (blocks c)) || b || not (length payload == sent_octets c at.block at.symbol)) (not_below (encoding_symbols c at.block) at.symbol)
    ∙ none_of (nat_lt at.block (blocks c)) (nat_lt at.symbol (encoding_symbols c at.block)) (length payload == sent_octets c at.block at.symbol)
  where
    length_if : Bool → Bool
    length_if b = elim b [ true ↦ fits_stream p q at payload | false ↦ length payload == sent_octets (cut_of_plan q) at.block at.symbol ]

-- ---- the word

abbrev word : Bool → Bool → Bool → Put
word had far misfit = elim (first_where ((had, put.Had) ∷ (far, put.Away) ∷ (misfit, put.Unfit) ∷ [])) [ Some w ↦ w | None ↦ put.Kept ]

had_word : (a b c : Bool) → a ≡ true → put.Had ≡ word a b c
unfolding first_where
had_word true b c e = refl
had_word false b c e = absurd (cc e)

later_word : (a b c : Bool) → a ≡ false → b ≡ false → (elim c as (λ _. Put) [ true ↦ put.Unfit | false ↦ put.Kept ]) ≡ word a b c
unfolding first_where
later_word true b c e f = absurd (cc e)
later_word false true c e f = absurd (cc f)
later_word false false true e f = refl
later_word false false false e f = refl

-- either of the two is set
either_set : (a b : Bool) → b ≡ true → (a || b) ≡ true
either_set true b e = refl
either_set false b e = e

neither_set : (a b : Bool) → a ≡ false → b ≡ false → (a || b) ≡ false
neither_set true b e f = e
neither_set false b e f = f

pub word_held : (p : Settings) (s : Holding) (q : Plan) (block symbol : ℕ) (payload : List ℕ) → holds s (position q.index block symbol) ≡ true
    → put.Had ≡ put_by p s q (position q.index block symbol) payload
word_held p s q block symbol payload here = had_word _ _ _ (ap (λ h. h || is_done s q block) here)

pub word_done : (p : Settings) (s : Holding) (q : Plan) (block symbol : ℕ) (payload : List ℕ) → is_done s q block ≡ true
    → put.Had ≡ put_by p s q (position q.index block symbol) payload
word_done p s q block symbol payload done = had_word _ _ _ (either_set (holds s (position q.index block symbol)) (is_done s q block) done)

word_new : (p : Settings) (s : Holding) (q : Plan) (block symbol : ℕ) (payload : List ℕ) (fits : Bool) → says_stream q.flags ≡ false
    → holds s (position q.index block symbol) ≡ false → is_done s q block ≡ false → is_payload (cut_of_plan q) block symbol payload ≡ fits
    → (elim (not fits) as (λ _. Put) [ true ↦ put.Unfit | false ↦ put.Kept ]) ≡ put_by p s q (position q.index block symbol) payload
word_new p s q block symbol payload fits none new lacks is =
    ap word_of (ap not (sym is) ∙ sym (misfit_is p q (position q.index block symbol) payload none))
    ∙ later_word (holds s (position q.index block symbol) || is_done s q block) (is_far p s q block) (is_misfit p q (position q.index block symbol) payload)
    (neither_set (holds s (position q.index block symbol)) (is_done s q block) new lacks)
    (ap (λ d. d && nat_le (first_block s q.index + p.blocks) block) none)
  where
    word_of : Bool → Put
    word_of d = elim d [ true ↦ put.Unfit | false ↦ put.Kept ]

pub word_unfit : (p : Settings) (s : Holding) (q : Plan) (block symbol : ℕ) (payload : List ℕ) → says_stream q.flags ≡ false
    → holds s (position q.index block symbol) ≡ false → is_done s q block ≡ false → is_payload (cut_of_plan q) block symbol payload ≡ false
    → put.Unfit ≡ put_by p s q (position q.index block symbol) payload
word_unfit p s q block symbol payload none new lacks is = word_new p s q block symbol payload false none new lacks is

pub word_kept : (p : Settings) (s : Holding) (q : Plan) (block symbol : ℕ) (payload : List ℕ) → says_stream q.flags ≡ false
    → holds s (position q.index block symbol) ≡ false → is_done s q block ≡ false → is_payload (cut_of_plan q) block symbol payload ≡ true
    → put.Kept ≡ put_by p s q (position q.index block symbol) payload
word_kept p s q block symbol payload none new lacks is = word_new p s q block symbol payload true none new lacks is

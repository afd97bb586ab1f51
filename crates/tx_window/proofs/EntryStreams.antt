-- A stream of the window, in the words of the rules.
use Rattle.std.proofs.Common.{◌≡◌, ℕ, ◌+◌, ◌-◌, ◌<◌, ◌≤◌, inl, inr, Bool, true, false, refl, ap, ◌∙◌, subst, arith, Some, None, List}
use Rattle.std.specs.Prelude.{nat_le, ◌&&◌}
use Rattle.std.specs.Int.{div_ceil}
use Rattle.std.proofs.lemmas.Bool.{le-ltb}
use Rattle.norm_base.specs.Settings.{Settings}
use Rattle.fec_plan.specs.Partition.{Cut, IsSound, source_symbols, encoding_symbols}
use Rattle.fec_plan.specs.Points.{Position, position}
use Rattle.norm_order.specs.Entries.{Part, Stream}
use Rattle.norm_order.specs.Shapes.{shape_of, encoded_in, closed_in, closed_blocks, is_full}
use Rattle.norm_send_rules.specs.Sending.{sent_once}
use Rattle.stream_buffer.specs.StreamState.{StreamState, StandsFor, closed_segments}
use Rattle.stream_buffer.proofs.KnowsLemmas.{closed_of, counted}
use Rattle.tx_window.specs.EntryAsked.{AnswersKept, IsNext}

-- ---- what is sent next

-- how many blocks have a closed segment, by what the buffer says
pub blocks_by : (p : Settings) (parts : List Part) (s : StreamState) (plan : Cut) (block segments wide sources size n : ℕ) → StandsFor p parts s → plan ≡ s.cut
    → segments ≡ closed_segments s → wide ≡ segments → sources ≡ source_symbols plan block → size ≡ sources → n ≡ div_ceil wide size
    → n ≡ closed_blocks (shape_of p (Stream parts))
blocks_by p parts s plan block segments wide sources size n st plan-is segments-is wide-is sources-is size-is n-is =
    n-is ∙ ap (λ m. div_ceil m size) (wide-is ∙ segments-is ∙ counted p parts s st)
    ∙ ap (div_ceil (closed_of p parts)) (size-is ∙ sources-is ∙ ap (λ (c : Cut). source_symbols c block) (plan-is ∙ st.cut))

pub none_here : (p : Settings) (parts : List Part) (q at : Position) (n wide : ℕ) → q ≡ at → n ≡ closed_blocks (shape_of p (Stream parts)) → wide ≡ q.block → n ≤ wide
    → IsNext p (shape_of p (Stream parts)) at None
none_here p parts q at n wide same n-is wide-is le =
    let block = ap (λ (x : Position). x.block) same in
    (omega (arith, n-is, wide-is, le, block), inl (omega (arith, n-is, wide-is, le, block)))

pub itself_next : (p : Settings) (parts : List Part) (q at : Position) (n wide once : ℕ) → q ≡ at → n ≡ closed_blocks (shape_of p (Stream parts)) → wide ≡ q.block → wide < n
    → once ≡ sent_once p (shape_of p (Stream parts)) q.block → q.symbol < once → IsNext p (shape_of p (Stream parts)) at (Some at)
itself_next p parts q at n wide once same n-is wide-is lt once-is less =
    subst (λ (x : Position). IsNext p (shape_of p (Stream parts)) x (Some x)) same (inl (refl, omega (arith, n-is, wide-is, lt), omega (arith, once-is, less)))

pub none_behind : (p : Settings) (parts : List Part) (q at : Position) (n wide once : ℕ) → q ≡ at → n ≡ closed_blocks (shape_of p (Stream parts)) → wide ≡ q.block → wide + 1 ≡ n
    → once ≡ sent_once p (shape_of p (Stream parts)) q.block → once ≤ q.symbol → IsNext p (shape_of p (Stream parts)) at None
none_behind p parts q at n wide once same n-is wide-is last once-is past =
    subst (λ (x : Position). IsNext p (shape_of p (Stream parts)) x None) same (omega (arith, n-is, wide-is, last), inr (omega (arith, once-is, past)))

pub block_behind : (p : Settings) (parts : List Part) (q at : Position) (n wide once : ℕ) → q ≡ at → n ≡ closed_blocks (shape_of p (Stream parts)) → wide ≡ q.block → wide < n
    → (wide + 1 ≡ n → ⊥) → once ≡ sent_once p (shape_of p (Stream parts)) q.block → once ≤ q.symbol
    → IsNext p (shape_of p (Stream parts)) at (Some (position q.index (q.block + 1) 0))
block_behind p parts q at n wide once same n-is wide-is lt more once-is past =
    subst (λ (x : Position). IsNext p (shape_of p (Stream parts)) x (Some (position q.index (q.block + 1) 0))) same
    (inr (refl, behind n (closed_blocks (shape_of p (Stream parts))) wide q.block n-is wide-is lt more, omega (arith, once-is, past)))
  where
    behind : (n m w k : ℕ) → n ≡ m → w ≡ k → w < n → (w + 1 ≡ n → ⊥) → k + 1 < m
    behind n m w k n-is w-is less apart = omega arith

-- ---- its symbols

pub stream_past : (p : Settings) (parts : List Part) (s : StreamState) (block symbol : ℕ) (old new : List ℕ) → StandsFor p parts s → IsSound s.cut
    → encoding_symbols s.cut block ≤ symbol → new ≡ old → AnswersKept p (Stream parts) s.first block symbol old new None
stream_past p parts s block symbol old new st sound past same = (
  ap (λ b. nat_le s.first block && b) (le-ltb symbol (encoded_in (shape_of p (Stream parts)) block) (go (is_full (shape_of p (Stream parts)) block)))
      ∙ both (nat_le s.first block),
  same,
)
  where
    both : (b : Bool) → (b && false) ≡ false
    both true = refl
    both false = refl

    most : encoding_symbols (shape_of p (Stream parts)).cut block ≤ symbol
    most = subst (λ (c : Cut). encoding_symbols c block ≤ symbol) st.cut past

    fit : source_symbols (shape_of p (Stream parts)).cut block ≤ encoding_symbols (shape_of p (Stream parts)).cut block
    fit = Rattle.fec_plan.proofs.PartitionLemmas.sources_fit (shape_of p (Stream parts)).cut block (subst IsSound st.cut sound)

    go : (b : Bool) → (elim b as (λ v. ℕ) [ true ↦ encoding_symbols (shape_of p (Stream parts)).cut block | false ↦ closed_in (shape_of p (Stream parts)) block ]) ≤ symbol
    go true = most
    go false = omega (arith, fit, most)

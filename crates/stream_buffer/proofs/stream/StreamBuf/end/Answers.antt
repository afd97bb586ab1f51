use Rattle.std.proofs.Common.{◌≡◌, ◌+◌, ◌*◌, ◌≤◌, ◌++◌, ◌∙◌, ap, arith, true, ℕ, List, [], ◌∷◌, length, length-append}
use Rattle.stream_buffer.specs.RowsState.{RowsState}
use Rattle.stream_buffer.specs.StreamState.{StreamState}
use Rattle.stream_buffer.specs.StreamMoves.{cut_here}
use Rattle.stream_buffer.specs.StreamSound.{stream_view}
use Rattle.stream_buffer.proofs.MovesLemmas.{over_rows, sealed_is, one_row, cut_rows, ends_with, ended_is}
use Rattle.stream_buffer.proofs.stream.StreamBuf.end.Goals as goal

one_longer : (rows : List (List ℕ)) (row : List ℕ) → length (rows ++ row ∷ []) ≡ length rows + 1
one_longer rows row = length-append rows (row ∷ [])

cut_is : (c : goal.After-seal-arg-1) → stream_view c.self.inside ≡ cut_here c.args.self.now
cut_is c = c.self.view_is ∙ c.cut.ensures.exact

many : (c : goal.After-seal-arg-1) → length c.self.inside.rows.rows + 1 ≤ c.self.inside.rows.room
many c = omega (
  arith,
  ap (λ (v : StreamState). length v.rows) (cut_is c),
  ap (λ (v : StreamState). v.blocks * v.cut.b) (cut_is c),
  cut_rows c.args.self.now c.requires.short,
  c.requires.free,
  c.self.invariant.room,
)

pub seal-requires-clause-free : goal.seal-requires-clause-free
seal-requires-clause-free c = omega (arith, many c)

pub invariant_of-self : goal.invariant_of-self
invariant_of-self c =
    let old = c.self.invariant in
    let before : length c.self.inside.rows.rows + 1 ≤ c.self.inside.rows.room = omega (
      arith,
      ap (λ (v : StreamState). length v.rows) (c.self.view_is ∙ c.cut.ensures.exact),
      ap (λ (v : StreamState). v.blocks * v.cut.b) (c.self.view_is ∙ c.cut.ensures.exact),
      cut_rows c.args.self.now c.requires.short,
      c.requires.free,
      old.room,
    ) in
    let named : c.self.inside.rows.first + length c.self.inside.rows.rows + 1 ≤ 16777216 * c.self.inside.b = omega (
      arith,
      ap (λ (v : StreamState). length v.rows) (c.self.view_is ∙ c.cut.ensures.exact),
      ap (λ (v : StreamState). v.cut.b) (c.self.view_is ∙ c.cut.ensures.exact),
      ap (λ (v : StreamState). v.first * v.cut.b) (c.self.view_is ∙ c.cut.ensures.exact),
      cut_rows c.args.self.now c.requires.short,
      c.requires.named,
      old.first,
    ) in
    let more : length c.seal.new.self.rows ≡ length c.self.inside.rows.rows + 1 = ap (λ (r : RowsState). length r.rows) c.seal.ensures ∙ one_longer c.self.inside.rows.rows _ in
    let none : length c.seal.new.self.filling ≡ 0 = ap (λ (r : RowsState). length r.filling) c.seal.ensures in
    record {
      code = old.code;
      least_e = old.least_e;
      most_e = old.most_e;
      least_b = old.least_b;
      most_b = old.most_b;
      fits = old.fits;
      most_n = old.most_n;
      size = ap (λ (r : RowsState). r.size) c.seal.ensures ∙ old.size;
      room = ap (λ (r : RowsState). r.room) c.seal.ensures ∙ old.room;
      some = old.some;
      first = ap (λ (r : RowsState). r.first) c.seal.ensures ∙ old.first;
      short = omega (arith, none, old.least_e);
      free = omega (arith, more, none, before, ap (λ (r : RowsState). r.room) c.seal.ensures);
      few = omega (arith, more, none, named, ap (λ (r : RowsState). r.first) c.seal.ensures);
      counted = omega (arith, none);
      octets = old.octets;
      ended = λ e. ap (λ (r : RowsState). r.filling) c.seal.ensures;
    }

pub returns : goal.returns
returns c =
    ap (λ (r : RowsState). record (over_rows (stream_view c.self.inside) c.self.inside.octets r) { ended = true }) c.seal.ensures
    ∙ ap (λ (v : StreamState). record v { ended = true }) (sealed_is (stream_view c.self.inside) c.self.inside.rows c.self.inside.octets c.self.inside.octets c.self.invariant.size)
    ∙ ap (λ (v : StreamState). ends_with v (v.rows ++ one_row v.cut.e v.octets v.filling)) (c.self.view_is ∙ c.cut.ensures.exact)
    ∙ ended_is c.args.self.now c.requires.short c.requires.counted

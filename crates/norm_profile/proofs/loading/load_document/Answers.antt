use Rattle.std.proofs.Common.{◌≡◌, ◌≤◌, inl, ap, sym, subst, length, Err, arith}
use Rattle.norm_profile.specs.Loading.{IsContent, IsDocumentOf}
use Rattle.norm_profile.proofs.LoadLemmas.{gives, gives_profile}
use Rattle.norm_profile.proofs.loading.load_document.Goals as goal

pub returns-in-Ok-clause-document : goal.returns-in-Ok-clause-document
returns-in-Ok-clause-document g c =
    let files = g.D.Files.contents c.args.files.now in
    let same : length c.deref.result.now ≡ length c.in_ok-octets.octets.items = ap length c.deref.ensures.value in
    let le = c.in_ok-octets.ensures.len in
    let no = c.if-len.false in
    let short : length c.deref.result.now ≤ 65536 = omega (arith, same, le, no) in
    let content = subst (λ fs. IsContent fs c.args.name.now c.in_ok-octets.octets.items) c.in_ok-len.ensures.same c.in_ok-octets.ensures.content in
    subst (λ a. IsDocumentOf files c.args.name.now a) c.in-Ok.is
    (gives files c.args.name.now c.deref.result.now c.in_ok-document.field-0
    (subst (λ o. IsContent files c.args.name.now o) (sym c.deref.ensures.value) content) c.in_ok-document.ensures.text c.in_ok-document.ensures.other short)

pub returns-clause-stops : goal.returns-clause-stops
returns-clause-stops g c =
    let files = g.D.Files.contents c.args.files.now in
    let same : length c.deref.result.now ≡ length c.in_ok-octets.octets.items = ap length c.deref.ensures.value in
    let le = c.in_ok-octets.ensures.len in
    let no = c.if-len.false in
    let short : length c.deref.result.now ≤ 65536 = omega (arith, same, le, no) in
    let content = subst (λ fs. IsContent fs c.args.name.now c.in_ok-octets.octets.items) c.in_ok-len.ensures.same c.in_ok-octets.ensures.content in
    let document = subst (λ a. IsDocumentOf files c.args.name.now a) c.in-Err.is
    (gives files c.args.name.now c.deref.result.now c.in_ok-document.field-0
    (subst (λ o. IsContent files c.args.name.now o) (sym c.deref.ensures.value) content) c.in_ok-document.ensures.text c.in_ok-document.ensures.other short) in
    inl (gives_profile files c.args.name.now (Err c.in-Err.why) document)

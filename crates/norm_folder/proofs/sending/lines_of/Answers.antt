use Rattle.std.proofs.Common.{◌≡◌, ◌∙◌, rules}
use Rattle.norm_mirror.specs.Manifest.{manifest_text}
use Rattle.norm_folder.proofs.SendingLemmas.{lines_all, lines_first, lines_more}
use Rattle.norm_folder.proofs.sending.lines_of.Goals as goal

pub loop-entry-init : goal.loop-entry-init
loop-entry-init c =
    lines_first (manifest_text c.args.entries.now) c.of-bytes.result c.args.entries.now c.new-lines.result.items c.push_marked.new.lines.items
    (c.of-bytes.ensures ∙ c.in_ok-manifest.ensures.text) (search rules) c.in_ok-push_marked.ensures

pub loop-entry-preserved : goal.loop-entry-preserved
loop-entry-preserved c =
    let l = c.loop-entry in
    let named : c.in_ok-name.name ≡ c.entry-item.result.name = search rules in
    lines_more (manifest_text c.args.entries.now) c.args.entries.now l.entry-index c.entry-item.result c.in_ok-name.name l.lines.items
    c.push_marked-in-loop-entry.new.lines.items (search rules) c.entry-item.is l.invariant named c.in_ok-push_marked-2.ensures

pub returns : goal.returns
returns c = lines_all c.args.entries.now c.loop-entry.entry-index c.loop-entry.lines.items (search rules) c.loop-entry.invariant

use Rattle.std.proofs.Common.{◌∙◌, refl}
use Rattle.norm_program.specs.Lending.{told}
use Rattle.norm_program.proofs.GatherEndLemmas.{pair_ends, gather_ends, loaded_here, loading_here}
use Rattle.norm_program.proofs.gather.end_gather.Goals as goal

pub returns-in-Ok-clause-ends : goal.returns-in-Ok-clause-ends
returns-in-Ok-clause-ends g c =
    let o = told g.S.Source g.K.Sink g.F.Fabric g.D.Files g.C.Clock c.args.lent.now in record {
      same = refl;
      tells = gather_ends c.args.pairs c.in-Ok.members.items c.gather.result o.input (g.S.Source.left c.gather.new.input) o.written (g.K.Sink.pieces c.load_all.new.output)
          (g.K.Sink.pieces c.gather.new.output) o.read_faults (g.S.Source.fault_count c.gather.new.input) o.write_faults (g.K.Sink.fault_count c.load_all.new.output)
          (g.K.Sink.fault_count c.gather.new.output) o.called.network o.called.files (g.D.Files.contents c.load_all.new.files) o.called.moments o.called.network_faults
          o.called.file_faults (g.D.Files.fault_count c.load_all.new.files) c.in-Ok.ensures.unwritten c.in-Ok.ensures.quiet.0 c.in-Ok.ensures.same c.in-Ok.ensures.quiet.1
          (loaded_here o.called.files _ c.args.pairs c.in-Ok.members.items (c.deref.ensures.value ∙ c.into_inner-pairs.ensures) c.in-Ok.ensures.loaded)
          c.gather.ensures;
    }

pub returns-clause-ends : goal.returns-clause-ends
returns-clause-ends g c =
    let o = told g.S.Source g.K.Sink g.F.Fabric g.D.Files g.C.Clock c.args.lent.now in record {
      same = refl;
      tells = pair_ends c.args.pairs c.in-Err.ending o.input o.written (g.K.Sink.pieces c.load_all.new.output) o.read_faults o.write_faults
          (g.K.Sink.fault_count c.load_all.new.output) o.called.network o.called.files (g.D.Files.contents c.load_all.new.files) o.called.moments o.called.network_faults
          o.called.file_faults (g.D.Files.fault_count c.load_all.new.files)
          (loading_here _ c.args.pairs c.in-Err.ending o.called.files o.written (g.K.Sink.pieces c.load_all.new.output) o.write_faults
          (g.K.Sink.fault_count c.load_all.new.output) o.called.file_faults (g.D.Files.fault_count c.load_all.new.files)
          (c.deref.ensures.value ∙ c.into_inner-pairs.ensures) c.in-Err.ensures.ending) c.in-Err.ensures.same;
    }

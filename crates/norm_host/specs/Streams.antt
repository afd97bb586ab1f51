use Rattle.std.specs.Prelude.{ℕ, Bool, List, map, is_some, string_bytes}
use Rattle.norm_host.specs.declared.folder.FolderFiles.{FolderFiles}
use Rattle.norm_host.specs.declared.instance_file.InstanceFile.{InstanceFile}
use Rattle.norm_host.specs.declared.std_source.StdSource.{StdSource}
use Rattle.norm_host.specs.declared.std_sink.StdSink.{StdSink}

-- What stands under a source and a sink of the process, which folder files are of, and which file keeps a number.

-- the reader under a source
abbrev pub reader_of : {R : Type 0} → StdSource R → R
reader_of s = s.reader

-- the writer under a sink
abbrev pub writer_of : {W : Type 0} → StdSink W → W
writer_of s = s.writer

-- the folder of files, as its path
abbrev pub folder_of : {F : Type 0} → FolderFiles F → List ℕ
folder_of f = string_bytes f.folder

-- the paths that files were told to read as they stand, in the order in which they were told
abbrev pub told_to : {F : Type 0} → FolderFiles F → List (List ℕ)
told_to f = map string_bytes f.told.items

-- the next call of files fails, by what they were told
abbrev pub is_stopped : {F : Type 0} → FolderFiles F → Bool
is_stopped f = is_some f.stopped

-- the path at which a number is kept
abbrev pub number_file : {R : Type 0} → InstanceFile R → List ℕ
number_file file = string_bytes file.path

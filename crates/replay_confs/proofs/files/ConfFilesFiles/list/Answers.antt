use Rattle.std.proofs.Common.{sym, ◌∙◌}
use Rattle.replay_confs.specs.Confs.{confs_of}
use Rattle.replay_confs.proofs.Children.{names_told}
use Rattle.replay_confs.proofs.files.ConfFilesFiles.list.Goals as goal

pub returns-in_ok-add_names-in-Folder-clause-names : goal.returns-in_ok-add_names-in-Folder-clause-names
returns-in_ok-add_names-in-Folder-clause-names c = names_told (confs_of c.args.self.now) c.args.folder.now c.args.out.now c.add_names.new.out (sym c.in-Folder.is ∙ c.node_at.ensures) c.in_ok-add_names-in-Folder.ensures

use Rattle.verbs.proofs.Files.{file_given, file_refused}
use Rattle.verbs.proofs.put_file.Goals as goal

pub returns-in-Ok : goal.returns-in-Ok
returns-in-Ok c = file_given c.args.map.now c.args.out.now _ _ c.requires c.write.ensures _ c.in-Ok.is c.write.auto.out

pub returns-in-Err : goal.returns-in-Err
returns-in-Err c = file_refused c.args.map.now c.args.out.now _ _ c.requires c.write.ensures _ _ _ c.in-Err.is c.put_refused.ensures

use Rattle.std.proofs.Common.{◌≡◌, Result, Ok, arith}
use Rattle.site_events.specs.declared.event.Asked.{Asked}
use Rattle.site_events.specs.declared.reply.LineRefusal.{LineRefusal}
use Rattle.session.proofs.Responses.{read_alike, event_response, at_response, configure_response, other_response, refused_response}
use Rattle.session.proofs.round.respond.Goals as goal

-- what was read, as one of its kinds
ok_as : (asked : Result Asked LineRefusal) (some one : Asked) → asked ≡ Ok some → some ≡ one → asked ≡ Ok one
ok_as asked some one e k = cc

pub returns-in-Err-clause-round : goal.returns-in-Err-clause-round
returns-in-Err-clause-round g c = λ terms told tells phase stands demand read.
    refused_response terms told g.B.Bank.view c.args.engine.now _ _ (g.F.Folder.texts c.args.folder.now) (g.F.Folder.faults c.args.folder.now) _ phase stands (omega arith) (λ t. g.met.B.Bank.sound _ (tells t)) _ _ c.in-Err.refusal demand _
    (read_alike _ _ demand c.in-Err.is read) c.refused.ensures

pub returns-in-One-clause-round : goal.returns-in-One-clause-round
returns-in-One-clause-round g c = λ terms told tells phase stands demand read.
    event_response terms told g.B.Bank.view c.args.engine.now _ _ (g.F.Folder.texts c.args.folder.now) (g.F.Folder.faults c.args.folder.now) _ phase stands (omega arith) _ _ c.in-One.event demand c.serve.result _ _
    (read_alike _ _ demand (ok_as _ _ _ c.in-Ok.is c.in-One.is) read) (c.serve.ensures.turn terms told tells phase stands)

pub returns-in-At-clause-round : goal.returns-in-At-clause-round
returns-in-At-clause-round g c = λ terms told tells phase stands demand read.
    at_response terms told g.B.Bank.view c.args.engine.now _ _ (g.F.Folder.texts c.args.folder.now) (g.F.Folder.faults c.args.folder.now) _ phase stands (omega arith) (λ t. g.met.B.Bank.sound _ (tells t)) _ _ c.in-At.moment c.move_on.result demand _ _
    (read_alike _ _ demand (ok_as _ _ _ c.in-Ok.is c.in-At.is) read) c.move_on.ensures.moved c.move_on.ensures.own

pub returns-in-Configure-clause-round : goal.returns-in-Configure-clause-round
returns-in-Configure-clause-round g c = λ terms told tells phase stands demand read.
    configure_response terms told g.B.Bank.view c.args.engine.now _ _ (g.F.Folder.texts c.args.folder.now) (g.F.Folder.faults c.args.folder.now) _ phase stands c.configure.ensures.folder_later
    _ _ demand c.configure.result _ _ _ (read_alike _ _ demand (ok_as _ _ _ c.in-Ok.is c.in-Configure.is) read) (c.configure.ensures.round terms told tells phase stands)

pub returns-in_default-clause-round : goal.returns-in_default-clause-round
returns-in_default-clause-round g c = λ terms told tells phase stands demand read.
    other_response terms told g.B.Bank.view c.args.engine.now _ _ (g.F.Folder.texts c.args.folder.now) (g.F.Folder.faults c.args.folder.now) _ phase stands (omega arith) (λ t. g.met.B.Bank.sound _ (tells t)) _ _ c.in-Ok.asked demand c.in_default.not-One c.in_default.not-At c.in_default.not-Configure
    (read_alike _ _ demand c.in-Ok.is read)

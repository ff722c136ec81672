use Rattle.std.proofs.Common.{◌≡◌, inl, inr, refl, Result, Err, arith}
use Rattle.outside.specs.declared.folder.FolderFault.{FolderFault}
use Rattle.site_types.specs.declared.file.SiteTexts.{SiteTexts}
use Rattle.session.proofs.Responses.{configured_response, unread_response}
use Rattle.session.proofs.round.configure.Goals as goal

-- what was read, as the error of this kind
err_as : (read : Result SiteTexts FolderFault) (some one : FolderFault) → read ≡ Err some → some ≡ one → read ≡ Err one
err_as read some one e k = cc

pub returns-in-Ok-clause-round : goal.returns-in-Ok-clause-round
returns-in-Ok-clause-round g c = λ terms told tells phase stands.
    configured_response terms told g.B.Bank.view c.args.engine.now _ _ (g.F.Folder.texts c.args.folder.now) (g.F.Folder.faults c.args.folder.now) _ phase stands c.read_texts.ensures.later
    _ _ c.in-Ok.texts c.serve.result _ _ c.in-Ok.ensures.texts (c.serve.ensures.turn terms told tells phase stands)

pub returns-in-Err-Failed-clause-round : goal.returns-in-Err-Failed-clause-round
returns-in-Err-Failed-clause-round g c = λ terms told tells phase stands.
    unread_response terms told g.B.Bank.view c.args.engine.now _ _ (g.F.Folder.texts c.args.folder.now) (g.F.Folder.faults c.args.folder.now) _ phase stands c.read_texts.ensures.later
    (λ t. g.met.B.Bank.sound _ (tells t)) _ _ _ (inl refl) (c.read_texts.ensures.failed (err_as _ _ _ c.in-Err-Failed.is c.in-Err-Failed.field-0-is))

pub returns-in-Err-NoMemory-clause-round : goal.returns-in-Err-NoMemory-clause-round
returns-in-Err-NoMemory-clause-round g c = λ terms told tells phase stands.
    unread_response terms told g.B.Bank.view c.args.engine.now _ _ (g.F.Folder.texts c.args.folder.now) (g.F.Folder.faults c.args.folder.now) _ phase stands c.read_texts.ensures.later
    (λ t. g.met.B.Bank.sound _ (tells t)) _ _ _ (inr refl) (omega (arith, c.read_texts.ensures.later))

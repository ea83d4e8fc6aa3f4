use Rattle.std.proofs.lemmas.Result.{err_from_is_err_and}
use Rattle.tiny_http_response.specs.Answer.{answer_head_text}
use Rattle.tiny_http_io.proofs.DeviceLemmas.{Took-append, Failed-append, Failed-front, Puts-append}
use Rattle.tiny_http_response.proofs.answer_head.put_lines.Goals as goal

pub returns-in_err-put_status : goal.returns-in_err-put_status
unfolding answer_head_text
returns-in_err-put_status g c =
    let p = err_from_is_err_and c.from_residual.result c.from_residual.ensures.1 in
    rw (p.1, p.2) (Failed-front _ _ _ _ _ (Failed-front _ _ _ _ _ (Failed-front _ _ _ _ _ (Failed-front _ _ _ _ _ (Failed-front _ _ _ _ _ (Failed-front _ _ _ _ _ c.in_err-put_status.ensures))))))

pub returns-in_err-put_upgrade : goal.returns-in_err-put_upgrade
unfolding answer_head_text
returns-in_err-put_upgrade g c =
    let p = err_from_is_err_and c.from_residual-in_err-put_upgrade.result c.from_residual-in_err-put_upgrade.ensures.1 in
    rw (p.1, p.2) (Failed-front _ _ _ _ _ (Failed-front _ _ _ _ _ (Failed-front _ _ _ _ _ (Failed-front _ _ _ _ _ (Failed-front _ _ _ _ _ (Failed-append _ _ _ _ _ _ c.in_ok-put_status.ensures c.in_err-put_upgrade.ensures))))))

pub returns-in_err-put_server : goal.returns-in_err-put_server
unfolding answer_head_text
returns-in_err-put_server g c =
    let p = err_from_is_err_and c.from_residual-in_err-put_server.result c.from_residual-in_err-put_server.ensures.1 in
    rw (p.1, p.2) (Failed-front _ _ _ _ _ (Failed-front _ _ _ _ _ (Failed-front _ _ _ _ _ (Failed-front _ _ _ _ _ (Failed-append _ _ _ _ _ _ (Took-append _ _ _ _ _ c.in_ok-put_status.ensures c.in_ok-put_upgrade.ensures) c.in_err-put_server.ensures)))))

pub returns-in_err-put_date : goal.returns-in_err-put_date
unfolding answer_head_text
returns-in_err-put_date g c =
    let p = err_from_is_err_and c.from_residual-in_err-put_date.result c.from_residual-in_err-put_date.ensures.1 in
    rw (p.1, p.2) (Failed-front _ _ _ _ _ (Failed-front _ _ _ _ _ (Failed-front _ _ _ _ _ (Failed-append _ _ _ _ _ _ (Took-append _ _ _ _ _ (Took-append _ _ _ _ _ c.in_ok-put_status.ensures c.in_ok-put_upgrade.ensures) c.in_ok-put_server.ensures) c.in_err-put_date.ensures))))

pub returns-in_err-put_listed : goal.returns-in_err-put_listed
unfolding answer_head_text
returns-in_err-put_listed g c =
    let p = err_from_is_err_and c.from_residual-in_err-put_listed.result c.from_residual-in_err-put_listed.ensures.1 in
    rw (p.1, p.2) (Failed-front _ _ _ _ _ (Failed-front _ _ _ _ _ (Failed-append _ _ _ _ _ _ (Took-append _ _ _ _ _ (Took-append _ _ _ _ _ (Took-append _ _ _ _ _ c.in_ok-put_status.ensures c.in_ok-put_upgrade.ensures) c.in_ok-put_server.ensures) c.in_ok-put_date.ensures) c.in_err-put_listed.ensures)))

pub returns-in_err-put_framing : goal.returns-in_err-put_framing
unfolding answer_head_text
returns-in_err-put_framing g c =
    let p = err_from_is_err_and c.from_residual-in_err-put_framing.result c.from_residual-in_err-put_framing.ensures.1 in
    rw (p.1, p.2) (Failed-front _ _ _ _ _ (Failed-append _ _ _ _ _ _ (Took-append _ _ _ _ _ (Took-append _ _ _ _ _ (Took-append _ _ _ _ _ (Took-append _ _ _ _ _ c.in_ok-put_status.ensures c.in_ok-put_upgrade.ensures) c.in_ok-put_server.ensures) c.in_ok-put_date.ensures) c.in_ok-put_listed.ensures) c.in_err-put_framing.ensures))

pub returns : goal.returns
unfolding answer_head_text
returns g c = Puts-append _ _ _ _ _ _ (Took-append _ _ _ _ _ (Took-append _ _ _ _ _ (Took-append _ _ _ _ _ (Took-append _ _ _ _ _ (Took-append _ _ _ _ _ c.in_ok-put_status.ensures c.in_ok-put_upgrade.ensures) c.in_ok-put_server.ensures) c.in_ok-put_date.ensures) c.in_ok-put_listed.ensures) c.in_ok-put_framing.ensures) c.put.ensures

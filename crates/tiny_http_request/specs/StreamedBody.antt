-- The parts of a `StreamedBody` that contracts refer to.
use Rattle.tiny_http_body.specs.declared.streamed.StreamedForm.{StreamedForm}
use Rattle.tiny_http_request.specs.declared.streamed_body.StreamedBody.{StreamedBody}

-- how a streamed body is sent
abbrev pub form_of : {W : Type 0} → {Rt : Type 0} → StreamedBody W Rt → StreamedForm
form_of b = b.body.form

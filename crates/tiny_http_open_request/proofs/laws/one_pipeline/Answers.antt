use Rattle.std.proofs.Common.{Some}
use Rattle.tiny_http_open_request.proofs.PipelineLemmas.{has-pipeline, pipeline-one}
use Rattle.tiny_http_open_request.proofs.laws.one_pipeline.Goals as goal

pub returns : goal.returns
returns c = record {
  some = has-pipeline;
  one = λ p feed items others h k. pipeline-one p (Some feed.bytes) feed.stop items others h k;
}

use Rattle.column_file.proofs.ContainerLaws.{container_is_lawful}
use Rattle.column_file.proofs.laws.containers_and_bytes_come_back.Goals as goal

pub returns : goal.returns
returns c = container_is_lawful
